-- The size of an answer: the line of a refusal at least, and at most the lines of a plan of as many jobs and slices as there can be. Assumes nothing.
--   answer-size     every answer has those of a refusal's line to answer_most bytes
--   least-answered, most-answered   and both are reached: by the empty text, and by the set of 94 slices
--   answer-most     as a number
use mathlib.Core.Path.{◌≡◌, refl}
use mathlib.Core.List.{List, [], ◌∷◌, ◌++◌}
use Prim.Native.Nat.{ℕ, ◌≤◌}
use native.Mathlib.Omega.{arith}
use lib.ListN.{length, replicate}
use Rattle.model.specs.Limits.{jobs_most, slices_most}
use Rattle.model.specs.Refusal.{Answer, given, refused, and_then}
use Rattle.model.proofs.Splits.{all-done-length}
use Rattle.columns.specs.Plan.{Plan, plan_of, slices_given}
use Rattle.planner.proofs.Examples.{board, jobs, most-slices}
use Rattle.planner.proofs.PlanKept.{plan-kept}
use Rattle.text.specs.Hex.{lines_of, nibble_of, pairs_of, bytes_of, digits_of, text_of, number_from}
use Rattle.text.specs.Records.{board_form, job_form, refusal_form, line_size, record_of}
use Rattle.text.specs.Output.{answer_most}
use Rattle.text.proofs.PlanText.{plan-length}
use Rattle.reader.specs.Input.{Input, job_in, entry_of, jobs_from, input_from, input_of}
use Rattle.clampfern.specs.Answer.{planned, lines_for, answer_text}
use Rattle.clampfern.proofs.Bounds.{small}

abbrev pub Sized : List ℕ → Type 0
Sized lines = (line_size refusal_form ≤ length lines) × (length lines ≤ answer_most)

refused-size : (number place : ℕ) → Sized (lines_for (refused number place))
unfolding digits_of text_of
refused-size number place = (omega arith, omega arith)

plan-size : (input : Input) (x : Answer Plan) → planned input ≡ x → Sized (lines_for x)
plan-size input (given p) is =
    let within = small input.board input.jobs jobs_most slices_most is in
    let size = plan-length p.shares p.slices _ _ refl refl in
    (omega (arith, size), omega (arith, size, within.few-jobs, within.few-slices))
plan-size input (refused number place) is = refused-size number place

pub answer-size : (text : List ℕ) → Sized (answer_text text)
answer-size text = go (input_of text) where
  go : (x : Answer Input) → Sized (lines_for (and_then x planned))
  go (given input) = plan-size input (planned input) refl
  go (refused number place) = refused-size number place

-- The set of planner/proofs/Examples.antt, which has as many slices as any, as a text.
abbrev job_record : (allowed c1 c2 : ℕ) → List ℕ
job_record allowed c1 c2 = record_of job_form (allowed ∷ c1 ∷ c2 ∷ [])

abbrev asked : List ℕ
asked =
    text_of
    (record_of board_form (1000 ∷ 8 ∷ 8 ∷ [])
    ∷ (replicate 15 (job_record 0 800 1338) ++ job_record 0 400 900 ∷ (replicate 24 (job_record 1 10 0) ++ replicate 24 (job_record 2 0 5))))

asked-read : input_of asked ≡ given (record { board = board; jobs = jobs })
unfolding lines_of nibble_of pairs_of bytes_of digits_of text_of number_from job_in entry_of jobs_from input_from input_of
asked-read = refl

pub most-answered : length (answer_text asked) ≡ answer_most
most-answered = rw asked-read (go (plan_of board jobs_most jobs jobs_most slices_most) refl most-slices) where
  go : (x : Answer Plan) → plan_of board jobs_most jobs jobs_most slices_most ≡ x → length (slices_given x) ≡ slices_most → length (lines_for x) ≡ answer_most
  go (given p) is most =
      plan-length p.shares p.slices jobs_most slices_most (all-done-length board.window 1 jobs p.shares (plan-kept board jobs_most jobs jobs_most slices_most is).whole.done) most
  go (refused number place) is most = absurd (omega arith)

pub least-answered : length (answer_text []) ≡ line_size refusal_form
unfolding lines_of digits_of text_of input_from input_of
least-answered = refl

-- As a number, for those who cannot cite it: include/clampfern.h.
pub answer-most : answer_most ≡ 2437
answer-most = refl
