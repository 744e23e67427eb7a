-- `planner::put_shares` meets its contract: each turn writes the share of one row more. Assumes nothing.
use Prim.Native.Nat.{ℕ, ◌+◌}
use native.Mathlib.Omega.{arith}
use Rattle.rows.specs.Upto.{at}
use Rattle.rows.proofs.Upto.{upto-fill, upto-map}
use Rattle.model.specs.ShareRow.{row_of}
use Rattle.model.specs.Split.{Ticks, share}
use Rattle.planner.proofs.put_shares.Goals as goal

pub loop-i-preserved : goal.loop-i-preserved
loop-i-preserved c =
    let a = c.args in
    let x = c.loop-i in
    let f : ℕ → Ticks = λ k. share (at a.first.now k) (at a.second.now k) in
    rw (c.share_of.ensures, x.invariant, upto-map row_of x.i f, upto-map row_of (x.i + 1) f)
    (upto-fill (λ k. row_of (f k)) a.table.now x.i (omega arith))
