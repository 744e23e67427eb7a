-- `planner::Tables::fill` meets its contract: its columns are long enough for every set. Assumes nothing.
use mathlib.Core.Path.{◌≡◌}
use borrow.Author.Rules.{rules}
use lib.ListN.{length, take}
use Rattle.rows.proofs.Upto.{upto-length}
use Rattle.model.specs.Limits.{jobs_most, slices_most}
use Rattle.planner.proofs.PlanTables.{written, costs-same, tables-filled}
use Rattle.planner.proofs.Tables.fill.Goals as goal

pub returns : goal.returns
returns c =
    let a = c.args in
    let t = a.self.now in
    let full1 : length t.first ≡ jobs_most = search rules in
    let full2 : length t.second ≡ jobs_most = search rules in
    let full : length t.slices ≡ slices_most = search rules in
    tables-filled a.board a.n (written a.board a.n a.jobs.now c.requires) (take a.n a.jobs.now) t.first t.second t.slices _ _ _ (upto-length a.n _)
    (costs-same a.board a.n a.jobs.now c.requires) full1 full2 full _ (rw (c.costs-first.ensures, c.costs-second.ensures) at c.plan_columns.ensures)
