-- What the C entry gives, where the answer fits. Assumes nothing.
use mathlib.Core.Path.{◌≡◌}
use mathlib.Core.Bool.{false}
use mathlib.Core.List.{List, ◌++◌}
use Prim.Native.Nat.{ℕ, ◌≤◌}
use borrow.Author.Tests.{le-ltb}
use lib.Dec.{ltb}
use lib.ListN.{length, drop}
use Rattle.clampfern.specs.Answer.{answer_text, Entered}

pub entered-whole : {text before after : List ℕ} {size : ℕ} → Entered text before after size → length (answer_text text) ≤ length before
    → (size ≡ length (answer_text text)) × (after ≡ answer_text text ++ drop (length (answer_text text)) before)
entered-whole {text} {before} e fits =
    let tested : ltb (length before) (length (answer_text text)) ≡ false = le-ltb _ _ fits in
    (rw tested at e.count, rw tested at e.text)
