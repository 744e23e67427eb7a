-- From text to text: what the program `plan` and the C entry answer. docs/SPEC.md, "The text".
--   planned       the plan of a text's set, on tables that are long enough for any
--   lines_for     the lines of a plan, or of its refusal
--   answer_text   the answer to a text: its plan's lines, or one line with the first refusal
--   Entered       the C entry: the count of the bytes written, and 0 where the lent text is too short
--   Answered      the answer by value: the count, the lines, and zeros behind them
-- Assumes nothing.
use Rattle.std.specs.Prelude.{cond, List, ◌++◌, ◌≡◌, ℕ, ◌-◌, ltb, length, replicate}
use Rattle.model.specs.Limits.{jobs_most, slices_most}
use Rattle.model.specs.Refusal.{Answer, given, refused, and_then}
use Rattle.columns.specs.Plan.{Plan, plan_of}
use Rattle.text.specs.Output.{plan_text, refused_text, written, answer_most}
use Rattle.reader.specs.Input.{Input, input_of}
use Rattle.clampfern.specs.declared.AnswerLines.{AnswerLines}

abbrev pub planned : Input → Answer Plan
planned input = plan_of input.board (length input.jobs) input.jobs jobs_most slices_most

abbrev pub lines_for : Answer Plan → List ℕ
lines_for (given p) = plan_text p.shares p.slices
lines_for (refused number place) = refused_text number place

abbrev pub answer_text : List ℕ → List ℕ
answer_text text = lines_for (and_then (input_of text) planned)

pub record Entered (asked before after : List ℕ) (r : ℕ) : Type 0 where
  pub count : r ≡ cond (ltb (length before) (length (answer_text asked))) 0 (length (answer_text asked))
  pub text : after ≡ written before (answer_text asked)

-- An answer has at most answer_most bytes (proofs/Size.antt), so the minus never stops at 0.
pub record Answered (text : List ℕ) (r : AnswerLines) : Type 0 where
  pub size : r.size ≡ length (answer_text text)
  pub bytes : r.bytes ≡ answer_text text ++ replicate (answer_most - length (answer_text text)) 0
