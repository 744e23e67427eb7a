-- The position in the window, which goes round: docs/SPEC.md, "The tick handler".
--   next_of      the tick after a tick, and 0 after the last: refusal 1, then refusal 11
--   left_at      where a position is left: at the tick that is given, or where it was
--   answered     what is answered: that it moved, or the refusal
--   MovesOn      what moving on promises: the answer, and where the position is after it
-- Assumes nothing.
use Rattle.std.specs.Prelude.{cond, ◌≡◌, ℕ, ◌+◌, eqb, leb, Result}
use Rattle.model.specs.Limits.{window_most}
use Rattle.model.specs.Refusal.{Answer, given, refused, says}
use Rattle.model.specs.declared.Refusal.{Refusal}
use Rattle.legal.specs.Legal.{outside}

unfoldable pub next_of : (window tick : ℕ) → Answer ℕ
next_of window tick =
    cond (outside window_most window) (refused 1 0)
    (cond (leb window tick) (refused 11 0)
    (given (cond (eqb (tick + 1) window) 0 (tick + 1))))

-- Where a position of `tick` is after an answer.
abbrev pub left_at : ℕ → Answer ℕ → ℕ
left_at tick (given next) = next
left_at tick (refused number place) = tick

abbrev pub answered : Answer ℕ → Answer (Unit {0})
answered (given next) = given tt
answered (refused number place) = refused number place

-- A position that the caller lends: refused, it stays.
pub record MovesOn (window tick : ℕ) (r : Result (Unit {0}) Refusal) (after : ℕ) : Type 0 where
  pub says : says r ≡ answered (next_of window tick)
  pub position : after ≡ left_at tick (next_of window tick)
