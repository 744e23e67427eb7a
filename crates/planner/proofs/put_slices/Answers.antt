-- `planner::put_slices` meets its contract: each turn writes the slice of one number more. Assumes nothing.
use native.Mathlib.Omega.{arith}
use Rattle.rows.specs.Upto.{at}
use Rattle.rows.proofs.Upto.{upto-fill}
use Rattle.model.specs.Packed.{slice_in}
use Rattle.planner.proofs.put_slices.Goals as goal

pub loop-i-preserved : goal.loop-i-preserved
loop-i-preserved c =
    let a = c.args in
    let x = c.loop-i in
    rw (c.from.ensures, x.invariant) (upto-fill (λ k. slice_in (at a.slices.now k)) a.table.now x.i (omega arith))
