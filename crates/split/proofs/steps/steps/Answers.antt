-- `split::steps::steps` meets its contract. The invariant: the steps that are left, on the rows of the columns as they are now, end where all steps
-- end (Runs). Assumes nothing.
use Prim.Native.Nat.{◌+◌, ◌-◌}
use native.Mathlib.Omega.{arith}
use borrow.Author.Rules.{rules}
use lib.ListN.{length}
use Rattle.split.proofs.steps.Runs.{ends_last, ends_within, ends_nobody, found_within, found_asks, goes_on}
use Rattle.split.proofs.steps.steps.Goals as goal

pub returns-then-sums-room : goal.returns-then-sums-room
returns-then-sums-room c = ends_within c.loop-step.invariant (omega arith)

pub returns-in_default : goal.returns-in_default
returns-in_default c = ends_nobody c.loop-step.invariant c.next_of.ensures (search rules)

-- A row was found: it is one of the columns'.
pub offset_bounds-far-i : goal.offset_bounds-far-i
offset_bounds-far-i c = let h = found_within c.loop-step.invariant c.next_of.ensures (omega arith) c.in-Some.is in search rules

pub bounds-far-i : goal.bounds-far-i
bounds-far-i c = let h = found_within c.loop-step.invariant c.next_of.ensures (omega arith) c.in-Some.is in search rules

pub advance-sums-requires-clause-w_le_window_most : goal.advance-sums-requires-clause-w_le_window_most
advance-sums-requires-clause-w_le_window_most c =
    let h = found_within c.loop-step.invariant c.next_of.ensures (omega arith) c.in-Some.is in
    (omega arith, omega arith, omega arith, omega arith)

pub advance-sums-requires-clause-asks : goal.advance-sums-requires-clause-asks
advance-sums-requires-clause-asks c = (found_asks c.loop-step.invariant c.next_of.ensures (omega arith) c.in-Some.is, omega arith)

pub loop-step-preserved : goal.loop-step-preserved
loop-step-preserved c =
    let x = c.loop-step in
    goes_on x.invariant c.next_of.ensures (omega arith) c.in-Some.is (length c.args.far.now - (x._step + 1)) (omega arith) c.advance-sums.ensures

pub returns : goal.returns
returns c = ends_last c.loop-step.invariant (omega arith)
