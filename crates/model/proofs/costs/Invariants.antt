-- `model::costs` meets its contract. The invariant: the column is that of the jobs passed. Assumes nothing.
use mathlib.Core.Path.{◌≡◌}
use lib.ListN.{take}
use Rattle.model.specs.Columns.{costs}
use Rattle.model.proofs.costs.Given as goal

abbrev pub invariant-loop-i : goal.invariant-loop-i
invariant-loop-i l = l.column ≡ costs l.kind (take l.i l.jobs)
