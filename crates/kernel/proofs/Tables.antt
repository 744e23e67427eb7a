-- What an answer on lines hands on: a refusal with no rows, or a board with the numbers of its rows at the front of the column. Assumes nothing.
use mathlib.Core.List.{List, map}
use mathlib.Core.Path.{◌≡◌}
use Prim.Native.Nat.{ℕ, ◌≤◌}
use lib.ListN.{take}
use Rattle.std.specs.Prelude.{Result, Ok, Err}
use Rattle.model.specs.Packed.{pack_of}
use Rattle.model.specs.Refusal.{Answer, given, says_refusal}
use Rattle.model.specs.declared.Refusal.{Refusal}
use Rattle.kernel.specs.Handed.{Handed}
use Rattle.kernel.specs.Reading.{rows_most, Hands}
use Rattle.kernel.specs.declared.lines.Table.{Table}

module _ (answer : Answer Handed) (column : List ℕ) where
  pub hands-refused : (r : Refusal) → answer ≡ says_refusal r → Hands answer (Err r) column
  hands-refused r e = record { says = rw e; few = tt }

  pub hands-rows : (h : Handed) (n : ℕ) → answer ≡ given h → take n column ≡ map pack_of h.rows → n ≤ rows_most → Hands answer (Ok (record { board = h.board; rows = n })) column
  hands-rows h n e held few = record { says = rw (e, held); few = few }

pub hands-as : {a b : Answer Handed} {r : Result Table Refusal} {column : List ℕ} → Hands a r column → b ≡ a → Hands b r column
hands-as h e = rw e h
