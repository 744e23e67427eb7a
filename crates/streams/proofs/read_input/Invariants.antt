-- `streams::read_input` meets its contract. The invariant: the bytes read lie within the buffer. The measure is that of `write_to`: the bytes that
-- are left with the interruptions that it still bears. Assumes nothing.
use Prim.Native.Nat.{◌+◌, ◌-◌, ◌≤◌}
use lib.ListN.{length}
use Rattle.streams.proofs.read_input.Given as goal

abbrev pub invariant-loop-done : goal.invariant-loop-done
invariant-loop-done l = l.done ≤ length l.buf

abbrev pub decreases-loop-done : goal.decreases-loop-done
decreases-loop-done l = length l.buf - l.done + l.spare
