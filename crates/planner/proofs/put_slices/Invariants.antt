-- `planner::put_slices` meets its contract. The invariant: the first i rows of the table are made of the column, and the others are as they were.
-- Assumes nothing.
use mathlib.Core.Path.{◌≡◌}
use mathlib.Core.List.{◌++◌}
use lib.ListN.{drop}
use Rattle.model.specs.Packed.{slices_in}
use Rattle.planner.proofs.put_slices.Given as goal

abbrev pub invariant-loop-i : goal.invariant-loop-i
invariant-loop-i l = l.table ≡ slices_in l.i l.slices ++ drop l.i l.initial.table
