-- `kernel::lines::read_rows` meets its contract, by the loop's invariant `Turn`: a line that gives a row finds room for it. Assumes nothing.
use mathlib.Core.Path.{sym}
use Prim.Native.Nat.{◌<◌}
use native.Mathlib.Omega.{arith}
use lib.ListN.{length-drop}
use Rattle.std.proofs.lemmas.Result.{err_from_is_err_and}
use Rattle.reader.proofs.Cuts.{cut_fits}
use Rattle.kernel.proofs.LineByLine.{turn-missing, turn_last, turn-refused, turn-nothing, turn-room, turn-row}
use Rattle.kernel.proofs.Tables.{hands-refused, hands-rows}
use Rattle.kernel.proofs.lines.read_rows.Goals as goal
use Rattle.kernel.proofs.lines.read_rows.Goals.{in-Some, in_default}

pub returns-in_err-slice : goal.returns-in_err-slice
returns-in_err-slice c =
    let p = err_from_is_err_and c.from_residual.result c.from_residual.ensures.1 in
    let h = c.in_err-slice.ensures.is _ _ c.cut_at-cut.ensures in
    rw (p.1, p.2) (hands-refused _ _ _ (rw (sym (turn-refused _ _ _ _ _ _ _ _ c.loop-at.invariant c.loop-at-test.true _ c.cut_at-cut.ensures _ _ h))))

pub bounds-rows-n : goal.bounds-rows-n
bounds-rows-n c =
    let h = rw c.in-Some.is at (c.in_ok-slice.ensures.is _ _ c.cut_at-cut.ensures) in
    let below : c.loop-at.n < c.args.announced.slices = turn-room _ _ _ _ _ _ _ _ c.loop-at.invariant c.loop-at-test.true _ c.cut_at-cut.ensures _ h in
    omega (arith, c.loop-at.invariant.full)

pub overflow_add-at : goal.overflow_add-at
overflow_add-at c = omega (arith, cut_fits _ _ _ c.cut_at-cut.ensures, length-drop c.loop-at.at c.args.lines.now)

pub loop-at-preserved : goal.loop-at-preserved
loop-at-preserved c =
    let inv = c.loop-at.invariant in
    let cuts = c.cut_at-cut.ensures in
    let is = c.in_ok-slice.ensures.is _ _ cuts in
    elim c.match-branch-2.branch [
      | in-Some w ↦ rw (w.rows-is, w.n-is, w.from.ensures)
          (turn-row _ _ _ _ _ _ _ _ inv c.loop-at-test.true _ cuts _ (rw w.in-Some.is at is) (omega arith))
      | in_default w ↦ rw (w.rows-is, w.n-is) (turn-nothing _ _ _ _ _ _ _ _ inv c.loop-at-test.true _ cuts (rw w.in_default.is at is))
    ]

pub returns-then-i-from : goal.returns-then-i-from
returns-then-i-from c =
    hands-refused _ _ _ (rw (sym (turn-missing _ _ _ _ _ _ _ _ c.loop-at.invariant (omega arith) (omega arith))))

pub returns : goal.returns
returns c =
    let inv = c.loop-at.invariant in
    hands-rows _ _ (record { board = c.args.board; jobs = c.args.announced.jobs; rows = inv.rows }) _
    (rw (sym (turn_last _ _ _ _ _ _ _ _ inv (omega arith) (omega arith))))
    inv.held
    (omega (arith, inv.few))
