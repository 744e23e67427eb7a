-- The worked sets, computed by the definitions that the promise of the split cites, and what one of them shows of its slack.
--   table-right                    the sets on both sides of a limit, and that of the paper's Table I (docs/SOURCES.md), each with its answer
--   slack-needed, no-slack-false   a refused set has a split on the whole board, so demand 3 without its slack is false
-- Assumes nothing.
use mathlib.Core.Bool.{true}
use mathlib.Core.List.{List, [], ◌∷◌, map}
use mathlib.Core.Path.{◌≡◌, refl}
use Prim.Native.Nat.{ℕ}
use native.Mathlib.Omega.{arith}
use lib.ListN.{length}
use Rattle.rows.specs.Lists.{lowest}
use Rattle.model.specs.Board.{room_of}
use Rattle.model.specs.Refusal.{Answer, given, refused, room_refusal}
use Rattle.model.specs.Split.{Ticks, share}
use Rattle.model.specs.declared.Board.{Board}
use Rattle.model.specs.declared.Job.{Job}
use Rattle.model.proofs.BothSides.{board, B, F, S}
use Rattle.legal.specs.Legal.{on_board, legal_of}
use Rattle.split.specs.Home.{at_home, keep_of, give_of}
use Rattle.split.specs.Promise.{SplitOn}
use Rattle.split.specs.Shares.{settled, by_over, shares_of}
use Rattle.split.specs.Steps.{better, next_from, moved_of, step_of, steps_of}

-- A row of the table: the cores of each kind in a window of 10, the jobs, and the answer.
pub record Line : Type 0 where
  pub first : ℕ
  pub second : ℕ
  pub jobs : List Job
  pub answer : Answer (List Ticks)

abbrev line : ℕ → ℕ → List Job → Answer (List Ticks) → Line
line a b js x = record { first = a; second = b; jobs = js; answer = x }

-- Three stretched jobs, which keep 4 ticks each at home, and a fourth that cannot be moved: with 8 ticks it has just room, with 9 it has not.
abbrev pub tight : ℕ → List Job
tight a = B 6 16 ∷ B 6 16 ∷ B 6 16 ∷ F a ∷ []

unfoldable pub table : List Line
table =
    line 1 1 [] (given [])
    ∷ line 1 1 (B 6 9 ∷ B 6 8 ∷ []) (given (share 6 0 ∷ share 4 3 ∷ []))
    ∷ line 1 1 (B 9 6 ∷ B 8 6 ∷ []) (given (share 0 6 ∷ share 3 4 ∷ []))
    ∷ line 1 1 (B 6 16 ∷ F 6 ∷ []) (given (share 4 6 ∷ share 6 0 ∷ []))
    ∷ line 1 1 (B 10 10 ∷ B 10 10 ∷ []) (given (share 0 10 ∷ share 10 0 ∷ []))
    ∷ line 1 1 (B 10 10 ∷ B 10 10 ∷ B 10 10 ∷ []) (refused 16 0)
    ∷ line 1 1 (F 10 ∷ []) (given (share 10 0 ∷ []))
    ∷ line 1 1 (F 11 ∷ []) (refused 5 0)
    ∷ line 1 1 (B 11 11 ∷ []) (refused 5 0)
    ∷ line 1 1 (B 10 11 ∷ []) (given (share 10 0 ∷ []))
    ∷ line 2 2 (tight 8) (given (share 4 6 ∷ share 4 6 ∷ share 4 6 ∷ share 8 0 ∷ []))
    ∷ line 2 2 (tight 9) (refused 14 0)
    ∷ line 2 2 (B 16 6 ∷ B 16 6 ∷ B 16 6 ∷ S 9 ∷ []) (refused 15 0)
    ∷ line 1 1 (F 10 ∷ F 1 ∷ S 10 ∷ S 1 ∷ []) (refused 6 0)
    ∷ line 3 2 (B 10 3 ∷ B 9 3 ∷ B 14 6 ∷ B 18 9 ∷ B 12 8 ∷ B 8 9 ∷ B 4 7 ∷ [])
    (given (share 0 3 ∷ share 3 2 ∷ share 7 3 ∷ share 2 8 ∷ share 6 4 ∷ share 8 0 ∷ share 4 0 ∷ []))
    ∷ []

-- Each row's answer is that of its set.
pub table-right : map (λ (l : Line). shares_of (board l.first l.second) (length l.jobs) l.jobs) table ≡ map (λ (l : Line). l.answer) table
unfolding table lowest legal_of on_board at_home keep_of give_of better next_from moved_of step_of steps_of settled by_over room_of
table-right = refl

-- The set that is refused with 9 has a split on the whole board, in fifths of ticks ..
abbrev part : Ticks
part = share 18 32

pub slack-needed : SplitOn (board 2 2) (tight 9)
unfolding room_of
slack-needed =
    record {
      whole = 5;
      some = omega arith;
      shares = part ∷ part ∷ part ∷ share 45 0 ∷ [];
      done = omega arith;
      within1 = omega arith;
      within2 = omega arith;
    }

-- .. so that demand 3 without its slack is false.
pub no-slack-false : ((board : Board) (n : ℕ) (js : List Job) → room_refusal (shares_of board n js) ≡ true → SplitOn board js → ⊥) → ⊥
unfolding lowest legal_of on_board at_home keep_of give_of better next_from moved_of step_of steps_of settled by_over room_of
no-slack-false claim = claim (board 2 2) 4 (tight 9) refl slack-needed
