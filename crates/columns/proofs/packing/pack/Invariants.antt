-- `packing::pack` meets its contract. The invariant: the table as it is, with the pieces of the jobs that are left, becomes what all pieces make
-- of it. Assumes nothing.
use mathlib.Core.Path.{◌≡◌}
use lib.ListN.{length}
use Rattle.columns.specs.Packing.{filling_of}
use Rattle.columns.proofs.packing.Filling.{left, Passing}
use Rattle.columns.proofs.packing.pack.Given as goal

abbrev pub invariant-loop-job : goal.invariant-loop-job
invariant-loop-job l =
    (length l.slices ≡ length l.initial.slices)
    × Passing l.class l.kind l.w l.mine l.other (left l.class l.kind l.w l.mine l.other (filling_of l.w l.initial.slices l.initial.p) 0)
    l.slices l.p (length l.yielded)
