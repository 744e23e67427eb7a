-- `packed::put_rows` meets its contract. The invariant: the bytes begin with the records of the rows that were passed. Assumes nothing.
use mathlib.Core.Path.{◌≡◌}
use Prim.Native.Nat.{◌*◌}
use lib.ListN.{take}
use Rattle.model.specs.Packed.{slices_in}
use Rattle.text.specs.Records.{slice_form, size_of}
use Rattle.packed.specs.Packed.{records_of}
use Rattle.packed.proofs.put_rows.Given as goal

abbrev pub invariant-loop-i : goal.invariant-loop-i
invariant-loop-i l = take (size_of slice_form * l.i) l.bytes ≡ records_of (slices_in l.i l.rows)
