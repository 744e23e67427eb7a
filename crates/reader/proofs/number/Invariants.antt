-- `reader::number` meets its contract. The loop's invariant: the number so far, with the digits that are left of those asked for, spells what all of
-- them spell, and it is below 16 to the power of the digits that were read. Assumes nothing.
use mathlib.Core.List.{List}
use mathlib.Core.Path.{◌≡◌}
use Prim.Native.Nat.{ℕ, ◌^◌, ◌≤◌, ◌<◌}
use lib.ListN.{length, take, drop}
use Rattle.reader.specs.Cut.{digits_in, hex_from, hex_in}
use Rattle.reader.proofs.number.Given as goal

-- `ds` are those asked for, and n of them were read.
pub record Running (ds : List ℕ) (n value : ℕ) : Type 0 where
  pub few : n ≤ length ds
  pub small : value < 16 ^ n
  pub spells : hex_from value (drop n ds) ≡ hex_in ds

abbrev pub invariant-loop-digit : goal.invariant-loop-digit
invariant-loop-digit l = (l.digits ≡ length l.yielded) × Running (take l.most (digits_in l.text)) l.digits l.value
