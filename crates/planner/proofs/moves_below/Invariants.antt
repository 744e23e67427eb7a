-- `planner::moves_below` meets its contract. The invariant: the rows passed have the moves of their jobs, and the others are zero. Assumes nothing.
use mathlib.Core.Path.{◌≡◌}
use mathlib.Core.List.{◌++◌}
use lib.ListN.{take, drop}
use Rattle.rows.specs.Upto.{upto}
use Rattle.slices.specs.Moves.{moves_of}
use Rattle.planner.proofs.moves_below.Given as goal

abbrev pub invariant-loop-job : goal.invariant-loop-job
invariant-loop-job l = l.planned ≡ upto l.job (moves_of (take l.counts.slices l.rows)) ++ drop l.job l.initial.planned
