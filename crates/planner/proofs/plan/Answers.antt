-- `planner::plan` meets its contract: the rows that it wrote are those of the plan in its columns. Assumes nothing.
use Rattle.planner.proofs.Lent.{lent-refused, lent-short, lent-planned}
use Rattle.planner.proofs.plan.Goals as goal

pub returns-in_err-counts : goal.returns-in_err-counts
returns-in_err-counts c = lent-refused _ _ _ _ c.fill.new.self _ _ c.from_residual.ensures.1 c.in_err-counts.ensures

pub returns-in_err-fit : goal.returns-in_err-fit
returns-in_err-fit c =
    lent-short _ _ _ _ c.fill.new.self c.in_ok-counts.counts c.in_ok-counts.ensures _ _ c.from_residual-in_err-fit.ensures.1 c.in_err-fit.ensures

pub returns : goal.returns
returns c =
    lent-planned _ _ _ _ c.fill.new.self c.in_ok-counts.counts c.in_ok-counts.ensures _ _ c.in_ok-fit.ensures c.put_shares.ensures c.put_slices.ensures
