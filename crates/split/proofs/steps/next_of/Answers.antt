-- `split::steps::next_of` meets its contract: the best of one row more. Assumes nothing.
use mathlib.Core.Path.{sym}
use native.Mathlib.Omega.{arith}
use borrow.Author.Rules.{rules}
use borrow.Author.Tests.{ltb-true, ltb-false}
use Rattle.split.proofs.steps.BestRow.{leading_first, leading_more, leading_still}
use Rattle.split.proofs.steps.next_of.Goals as goal
use Rattle.split.proofs.steps.next_of.Goals.{then-is_ahead, else-is_ahead}

pub loop-i-init : goal.loop-i-init
loop-i-init c = (omega arith, λ here there. leading_first _ _ here there c.in_ok-first.first (λ k l. search rules) (search rules))

pub loop-i-preserved : goal.loop-i-preserved
loop-i-preserved c =
    let led = c.loop-i.invariant.1 in
    elim c.if-is_ahead.branch [
      | then-is_ahead w ↦ (omega arith, λ here there. rw w.best-is (leading_more _ _ here there _ _ (ltb-true _ _ (sym w.if-is_ahead.ensures)) (led here there)))
      | else-is_ahead w ↦ (omega arith, λ here there. rw w.best-is (leading_still _ _ here there _ _ (ltb-false _ _ (sym w.if-is_ahead.ensures)) (led here there)))
    ]
