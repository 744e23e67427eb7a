-- `reader::read_jobs` meets its contract. The loop's invariant is `Turn`: what the lines from here on give, put behind the jobs so far, is what
-- all lines give. Assumes nothing.
use Prim.Native.Nat.{◌-◌}
use lib.ListN.{length}
use Rattle.reader.proofs.LineByLine.{Turn}
use Rattle.reader.proofs.read_jobs.Given as goal

abbrev pub invariant-loop-at : goal.invariant-loop-at
invariant-loop-at l = Turn l.text l.from l.costs1 l.costs2 l.n l.at

abbrev pub decreases-loop-at : goal.decreases-loop-at
decreases-loop-at l = length l.text - l.at
