-- `streams::write_to` meets its contract. The measure is the bytes that are left with the interruptions that it still bears: a call that moved
-- bytes leaves fewer of the first, and one that was interrupted fewer of the second. Assumes nothing.
use Prim.Native.Nat.{◌+◌}
use lib.ListN.{length}
use Rattle.streams.proofs.write_to.Given as goal

abbrev pub decreases-loop-rest : goal.decreases-loop-rest
decreases-loop-rest g l = length l.rest + l.spare
