-- `planner::put_shares` meets its contract. The invariant: the first i rows of the table are made of the two columns, and the others are as they
-- were. Assumes nothing.
use mathlib.Core.Path.{◌≡◌}
use mathlib.Core.List.{◌++◌, map}
use lib.ListN.{drop}
use Rattle.model.specs.Columns.{shares_in}
use Rattle.model.specs.ShareRow.{row_of}
use Rattle.planner.proofs.put_shares.Given as goal

abbrev pub invariant-loop-i : goal.invariant-loop-i
invariant-loop-i l = l.table ≡ map row_of (shares_in l.i l.first l.second) ++ drop l.i l.initial.table
