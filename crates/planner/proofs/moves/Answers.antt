-- `planner::moves` meets its contract: the moves are counted in the rows of the plan. Assumes nothing.
use mathlib.Core.Path.{◌≡◌, ap}
use native.Mathlib.Omega.{arith}
use borrow.Author.Rules.{rules}
use lib.ListN.{length, take, length-map}
use Rattle.model.specs.Limits.{slices_most}
use Rattle.model.specs.Packed.{slice_in}
use Rattle.planner.proofs.PlanMoves.{moves-promised}
use Rattle.planner.proofs.moves.Goals as goal

pub returns : goal.returns
returns c =
    let a = c.args in
    let t = c.fill.new.self in
    let filled = c.in_ok-counts.ensures in
    let full : length c.rows_of.result ≡ slices_most = search rules in
    moves-promised a.board a.n (take a.n a.jobs) c.in_ok-counts.counts t _ filled (omega (arith, filled.few.slices, ap length c.rows_of.ensures, length-map t.slices slice_in))
    (rw c.rows_of.ensures at c.moves_below-moves.ensures)
