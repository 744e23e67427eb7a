-- Each listed cause gives its refusal: so a text is refused exactly when a line of the list applies. The one idea: the lines before a line that
-- is reached are a board and jobs, so that the reading gets there. Assumes nothing.
--   listed_answer   the answer to a text of which a refusal is listed is that refusal
use mathlib.Core.Path.{◌≡◌, refl, subst}
use mathlib.Core.List.{List, [], ◌∷◌}
use Prim.Native.Nat.{ℕ, zero, suc, ◌+◌, ◌-◌, ◌≤◌}
use native.Mathlib.Numerals.{add-one}
use native.Mathlib.Omega.{arith}
use borrow.Author.Tests.{lt-ltb, le-ltb}
use lib.ListN.{length, drop}
use lib.Seq.{drop-cons}
use Rattle.rows.proofs.Never.{never}
use Rattle.model.specs.Limits.{jobs_most, slices_most, text_most}
use Rattle.model.specs.Refusal.{Answer, given, refused, and_then}
use Rattle.model.specs.declared.Board.{Board}
use Rattle.model.specs.declared.Job.{Job}
use Rattle.planner.proofs.Causes.{listed-plan}
use Rattle.text.specs.Hex.{lines_of}
use Rattle.reader.specs.Input.{line_says, as_board, as_job, jobs_from, input_from, input_of}
use Rattle.reader.specs.declared.Entry.TheVariants.{OfBoard, OfJob}
use Rattle.clampfern.specs.Listed.{line_at, last_line, Good, board, job, Reached, TextListed, over, digits, unknown, job-first, board-later, empty, many, of-set}
use Rattle.clampfern.proofs.Answers.{answer_of}

-- What stops at the second of three steps stops.
then-refused : {A B C : Type 0} {number place : ℕ} (x : Answer A) (f : A → Answer B) (g : A → B → Answer C) → and_then x f ≡ refused number place
    → and_then x (λ (a : A). and_then (f a) (g a)) ≡ refused number place
then-refused {B = B} {number = number} {place = place} (given a) f g e = go (f a) e
  where
    go : (y : Answer B) → y ≡ refused number place → and_then y (g a) ≡ refused number place
    go (given b) e = never (cc)
    go (refused m q) e = cc
then-refused (refused m q) f g e = cc

module _ (text : List ℕ) where
  -- What is left after n lines begins with line n + 1.
  cut : (k n : ℕ) → k ≡ n + 1 → k ≤ length (lines_of text) → drop n (lines_of text) ≡ line_at text k ∷ drop (n + 1) (lines_of text)
  cut k n is there = let before : k - 1 ≡ n = omega arith in rw (before, add-one n) (drop-cons (lines_of text) n [] (omega arith))

  board-at : Good text 1 → (b : Board) × (line_says 1 (line_at text 1) ≡ given (OfBoard b))
  board-at (board b says) = (b, says)
  board-at (job i j later says) = absurd (omega arith)

  job-at : (k : ℕ) → 2 ≤ k → Good text k → (j : Job) × (line_says k (line_at text k) ≡ given (OfJob j))
  job-at k later (board b says) = absurd (omega arith)
  job-at k later (job i j two says) = (j, says)

  module _ (number place i : ℕ) (at : Reached text i) where
    -- Line i is refused where it stands, as the first line or after n jobs.
    abbrev First : Type 0
    First = i ≡ 1 → and_then (line_says i (line_at text i)) (as_board i) ≡ refused number place

    abbrev Later : Type 0
    Later = (n : ℕ) → i ≡ n + 2 → and_then (line_says i (line_at text i)) (as_job i n) ≡ refused number place

    -- From line k on, d lines before line i.
    jobs-to : Later → (d k n : ℕ) → k ≡ n + 2 → i ≡ k + d → jobs_from k n (drop (n + 1) (lines_of text)) ≡ refused number place
    unfolding jobs_from
    jobs-to later zero k n is left =
        let here : i ≡ k = omega arith in
        rw (cut k (n + 1) (omega arith) (omega (arith, at.there)))
        (then-refused (line_says k (line_at text k)) (as_job k n) _
        (subst (λ (x : ℕ). and_then (line_says x (line_at text x)) (as_job x n) ≡ refused number place) here (later n (omega arith))))
    jobs-to later (suc d) k n is left =
        let good = job-at k (omega arith) (at.before k (omega arith) (omega arith)) in
        rw (
          cut k (n + 1) (omega arith) (omega (arith, at.there)),
          good.1,
          lt-ltb n jobs_most (omega (arith, at.most)),
          jobs-to later d (k + 1) (n + 1) (omega arith) (omega arith),
        )

    line_refused : First → Later → input_of text ≡ refused number place
    unfolding input_of input_from
    line_refused first later = rw (le-ltb text_most (length text) at.short) (go i refl)
      where
        head : lines_of text ≡ line_at text 1 ∷ drop 1 (lines_of text)
        head = cut 1 0 refl (omega (arith, at.some, at.there))

        go : (k : ℕ) → i ≡ k → input_from (lines_of text) ≡ refused number place
        go zero is = absurd (omega (arith, at.some))
        go (suc zero) is =
            rw head
            (then-refused (line_says 1 (line_at text 1)) (as_board 1) _
            (subst (λ (x : ℕ). and_then (line_says x (line_at text x)) (as_board x) ≡ refused number place) is (first is)))
        go (suc (suc d)) is =
            let good = board-at (at.before 1 (omega arith) (omega arith)) in
            rw (head, good.1, jobs-to later d 2 0 refl (omega arith))

  pub listed_answer : {number place : ℕ} → TextListed text number place → answer_of text ≡ refused number place
  unfolding input_of input_from lines_of
  listed_answer (over long) = rw (lt-ltb text_most (length text) long)
  listed_answer (digits i at cause) = rw (line_refused 8 i i at (λ e. rw cause) (λ n e. rw cause))
  listed_answer (unknown i r at is cause) = rw (line_refused 9 i i at (λ e. rw (is, cause)) (λ n e. rw (is, cause)))
  listed_answer (job-first j at says) = rw (line_refused 10 1 1 at (λ e. rw says) (λ n e. absurd (omega arith)))
  listed_answer (board-later i b at later says) = rw (line_refused 10 i i at (λ e. absurd (omega arith)) (λ n e. rw says))
  listed_answer (empty none-there) = rw none-there
  listed_answer (many j at says) =
      rw (line_refused 3 jobs_most last_line at (λ e. absurd (omega arith)) (λ n e. rw (says, le-ltb n jobs_most (omega arith))))
  listed_answer (of-set input is few most listed) = rw is (listed-plan input.board input.jobs jobs_most slices_most listed)
