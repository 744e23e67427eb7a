-- `reader::read_jobs` meets its contract: a turn reads the line of one job more, or is refused by what that line says. Assumes nothing.
use mathlib.Core.Path.{◌≡◌, refl, ap}
use Prim.Native.Nat.{◌+◌, ◌≤◌, ◌<◌}
use native.Mathlib.Omega.{arith}
use lib.ListN.{length, drop, length-drop}
use Rattle.std.proofs.Common.{rules, Err, ◌++◌}
use Rattle.reader.specs.Cut.{line_length}
use Rattle.reader.proofs.Cuts.{cut_fits, cut-ends}
use Rattle.reader.proofs.Entries.{cut-says}
use Rattle.reader.proofs.Lent.{gives-refused, gives-short, gives_set}
use Rattle.reader.proofs.Lines.{lines_of-at}
use Rattle.reader.proofs.LineByLine.{turn_last, turn-refused, turn_more}
use Rattle.reader.proofs.read_jobs.Goals as goal

pub returns-in_err-job : goal.returns-in_err-job
returns-in_err-job c =
    let within : c.loop-at.at < length c.args.text.now = omega arith in
    let end = c.loop-at.at + line_length (drop c.loop-at.at c.args.text.now) in
    let said = rw (c.in_err-job.was, cut-says (c.loop-at.n + 2) c.cut_at-cut.ensures) at c.row_of.ensures in
    let r : c.from_residual.result ≡ Err c.in_err-job.field-0.0 = search rules in
    rw (r, ← (turn-refused _ _ _ _ _ _ c.loop-at.invariant _ end (lines_of-at _ _ within end refl) said)) (gives-refused refl)

pub overflow_add-at : goal.overflow_add-at
overflow_add-at c = omega (arith, cut_fits _ _ _ c.cut_at-cut.ensures, length-drop c.loop-at.at c.args.text.now)

pub loop-at-preserved : goal.loop-at-preserved
loop-at-preserved c =
    let within : c.loop-at.at < length c.args.text.now = omega arith in
    let said = rw (c.in_ok-job.was, cut-says (c.loop-at.n + 2) c.cut_at-cut.ensures) at c.row_of.ensures in
    turn_more _ _ _ _ _ _ c.loop-at.invariant _ _ (lines_of-at _ _ within _ (cut-ends _ _ _ c.cut_at-cut.ensures _ _ said)) said c.cost.ensures c.cost-in-loop-at.ensures

pub returns-then-is_short : goal.returns-then-is_short
returns-then-is_short c =
    let past : length c.args.text.now ≤ c.loop-at.at = omega arith in
    let t = c.loop-at.invariant in
    rw (← (turn_last _ _ _ _ _ _ t past)) (gives-short _ t.jobs t.count t.few _ _ (cc))

pub returns : goal.returns
returns c =
    let past : length c.args.text.now ≤ c.loop-at.at = omega arith in
    let t = c.loop-at.invariant in
    rw (← (turn_last _ _ _ _ _ _ t past))
    (gives_set _ t.jobs t.count t.few _ _ (cc) t.first t.second (ap (λ l. l ++ drop c.loop-at.n c.args.first.now) c.copy_from_slice.ensures.after)
    (ap (λ l. l ++ drop c.loop-at.n c.args.second.now) c.copy_from_slice-2.ensures.after))
