-- `split::steps::steps` meets its contract. The invariant: the steps that are left, on the rows of the columns as they are now, end where all steps
-- end (Runs). Assumes nothing.
use Prim.Native.Nat.{◌-◌}
use lib.ListN.{length}
use Rattle.split.proofs.steps.Runs.{Runs}
use Rattle.split.proofs.steps.steps.Given as goal

abbrev pub invariant-loop-step : goal.invariant-loop-step
invariant-loop-step l = Runs l.w l.room l.initial.near l.far l.initial.here l.initial.there l.near l.here l.there l.sums (length l.far - l._step)
