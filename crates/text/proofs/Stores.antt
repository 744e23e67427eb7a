-- Bytes that are stored one behind the other: two runs of stores are one, and all of them at the front of a text. Assumes nothing.
use mathlib.Core.Bool.{true, false}
use mathlib.Core.Path.{◌≡◌, ◌∙◌}
use mathlib.Core.List.{List, [], ◌∷◌, ◌++◌}
use Prim.Native.Nat.{ℕ, suc, ◌+◌, ◌≤◌, ◌<◌}
use native.Mathlib.Nat.{add-zero, zero-add, add-suc, suc-add}
use borrow.Author.Tests.{lt-ltb, le-ltb}
use lib.Dec.{ltb}
use lib.ListN.{length, set}
use lib.Seq.{sets, sets-eq}
use Rattle.std.specs.Prelude.{Ok, Err}
use Rattle.model.specs.declared.Refusal.{Refusal}
use Rattle.text.specs.Output.{Writes}

pub sets-append : (l : List ℕ) (i : ℕ) (xs ys : List ℕ) → sets l i (xs ++ ys) ≡ sets (sets l i xs) (i + length xs) ys
sets-append l i [] ys = rw add-zero
sets-append l i (x ∷ xs) ys = rw add-suc (rw suc-add at (sets-append (set l i x) (suc i) xs ys))

-- What a writer owes of a text that is too short, and of one that is not.
module _ (refusal : Refusal) (text lines : List ℕ) (size : ℕ) (is : length lines ≡ size) where
  pub too_short : length text < size → Writes refusal text text lines (Err refusal)
  too_short few =
      let tested : ltb (length text) (length lines) ≡ true = lt-ltb (length text) (length lines) (rw is few) in
      record { says = rw tested; text = rw tested }

  pub all-written : size ≤ length text → Writes refusal text (sets text 0 lines) lines (Ok size)
  all-written fits =
      let room : length lines ≤ length text = rw is fits in
      let tested : ltb (length text) (length lines) ≡ false = le-ltb _ _ room in
      record { says = rw (tested, is); text = rw tested (sets-eq lines text 0 (rw zero-add room) ∙ rw zero-add) }
