-- `packed::look_over` meets its contract. The invariant: each row so far is a slice's, and the answer is that of the rows so far. Assumes nothing.
use mathlib.Core.Path.{◌≡◌}
use mathlib.Core.Bool.{true}
use Rattle.std.specs.Prelude.{take}
use Rattle.std.specs.List.{list_all}
use Rattle.packed.specs.Packed.{is_slice}
use Rattle.packed.specs.Asking.{job_of}
use Rattle.packed.proofs.look_over.Given as goal

abbrev pub invariant-loop-row : goal.invariant-loop-row
invariant-loop-row l =
    (list_all is_slice (take l.row-index l.rows) ≡ true)
    × (l.answer ≡ job_of l.tick l.kind l.core (take l.row-index l.rows))
