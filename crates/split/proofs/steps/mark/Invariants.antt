-- `split::steps::mark` meets its contract. The invariant: the rows passed are marked. Assumes nothing.
use mathlib.Core.Path.{◌≡◌}
use lib.ListN.{take}
use Rattle.split.specs.Columns.{marks_in}
use Rattle.split.proofs.steps.mark.Given as goal

abbrev pub invariant-loop-i : goal.invariant-loop-i
invariant-loop-i l = take l.i l.near ≡ marks_in l.i l.far l.here
