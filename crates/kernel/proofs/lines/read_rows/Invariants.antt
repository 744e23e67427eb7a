-- `kernel::lines::read_rows` meets its contract. The loop's invariant is `Turn`: what the lines from here on give, put behind the rows so far, is
-- what all lines give. Assumes nothing.
use Prim.Native.Nat.{◌-◌}
use lib.ListN.{length}
use Rattle.kernel.specs.Reading.{counts}
use Rattle.kernel.proofs.LineByLine.{Turn}
use Rattle.kernel.proofs.lines.read_rows.Given as goal

abbrev pub invariant-loop-at : goal.invariant-loop-at
invariant-loop-at l = Turn l.lines l.from (counts l.announced) (length l.initial.rows) l.rows l.n l.i l.at

abbrev pub decreases-loop-at : goal.decreases-loop-at
decreases-loop-at l = length l.lines - l.at
