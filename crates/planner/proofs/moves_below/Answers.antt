-- `planner::moves_below` meets its contract: each turn writes the moves of one job more. Assumes nothing.
use mathlib.Core.Path.{◌≡◌}
use native.Mathlib.Omega.{arith}
use lib.ListN.{length, take, replicate, length-replicate}
use Rattle.std.proofs.lemmas.List.{append-nil, drop_all, length-take-le}
use Rattle.rows.proofs.Upto.{upto-fill}
use Rattle.rows.proofs.Walk.{replicate-left}
use Rattle.model.specs.Limits.{jobs_most}
use Rattle.slices.specs.Moves.{moves_of}
use Rattle.planner.specs.PlanMoves.{no_moves}
use Rattle.planner.proofs.moves_below.Goals as goal

pub loop-job-preserved : goal.loop-job-preserved
loop-job-preserved c =
    let a = c.args in
    let x = c.loop-job in
    rw (c.moves_of.ensures, x.invariant)
    (upto-fill (moves_of (take a.counts.slices a.rows)) (take a.counts.jobs (replicate jobs_most no_moves)) x.job (omega arith))

pub returns : goal.returns
returns c =
    let n = c.args.counts.jobs in
    let x = c.loop-job in
    let size : length (take n (replicate jobs_most no_moves)) ≡ n = length-take-le n _ (omega (arith, length-replicate jobs_most no_moves)) in
    let end : x.job ≡ n = omega arith in
    rw (x.invariant, end, drop_all n (take n (replicate jobs_most no_moves)) (omega arith), append-nil, replicate-left n jobs_most no_moves)
