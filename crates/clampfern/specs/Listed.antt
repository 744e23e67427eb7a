-- Internal: no public promise cites this. The theorems on the page of demands do, so read it with them. The refusals of a text, each by its number,
-- with its place and its cause: docs/SPEC.md, "The text", in the order in which a text is read and its set is planned.
--   line_at      line i of a text, from 1
--   last_line    the last line that is read
--   Good         a line as an input has it there: a board first, then jobs
--   Reached      a line that is read: the text is short enough, and every line before it is good
--   TextListed   the number and the place of a refusal, and why it is given
-- Assumes nothing.
use Rattle.std.specs.Prelude.{List, [], ◌≡◌, ℕ, ◌+◌, ◌-◌, ◌≤◌, ◌<◌, length, get_or, None, Some}
use Rattle.model.specs.Limits.{jobs_most, slices_most, text_most}
use Rattle.model.specs.Refusal.{given}
use Rattle.model.specs.declared.Board.{Board}
use Rattle.model.specs.declared.Job.{Job}
use Rattle.planner.specs.Listed.{Listed}
use Rattle.text.specs.Hex.{lines_of, bytes_of}
use Rattle.reader.specs.Input.{Input, entry_of, line_says, input_of}
use Rattle.reader.specs.declared.Entry.TheVariants.{OfBoard, OfJob}

abbrev pub line_at : List ℕ → ℕ → List ℕ
line_at text i = get_or (lines_of text) (i - 1) []

pub data Good (text : List ℕ) : ℕ → Type 0 where
  board : (b : Board) → line_says 1 (line_at text 1) ≡ given (OfBoard b) → Good text 1
  job : (i : ℕ) (j : Job) → 2 ≤ i → line_says i (line_at text i) ≡ given (OfJob j) → Good text i

-- Line 66, behind a board and 64 jobs.
abbrev pub last_line : ℕ
last_line = jobs_most + 2

pub record Reached (text : List ℕ) (i : ℕ) : Type 0 where
  pub short : length text ≤ text_most
  pub some : 1 ≤ i
  pub most : i ≤ last_line
  pub there : i ≤ length (lines_of text)
  pub before : (k : ℕ) → k < i → 1 ≤ k → Good text k

pub data TextListed (text : List ℕ) : (number place : ℕ) → Type 0 where
  -- 8: more bytes than a text may have, before any line; or a line that spells no bytes.
  over : text_most < length text → TextListed text 8 0
  digits : (i : ℕ) → Reached text i → bytes_of (line_at text i) ≡ None → TextListed text 8 i
  -- 9: a record that is none of an input's.
  unknown : (i : ℕ) (r : List ℕ) → Reached text i → bytes_of (line_at text i) ≡ Some r → entry_of r ≡ None → TextListed text 9 i
  -- 10: the first line is no board, a later one is, or there is no line.
  job-first : (j : Job) → Reached text 1 → line_says 1 (line_at text 1) ≡ given (OfJob j) → TextListed text 10 1
  board-later : (i : ℕ) (b : Board) → Reached text i → 2 ≤ i → line_says i (line_at text i) ≡ given (OfBoard b) → TextListed text 10 i
  empty : text ≡ [] → TextListed text 10 1
  -- 3: one job too many, after a board and 64 jobs.
  many : (j : Job) → Reached text last_line → line_says last_line (line_at text last_line) ≡ given (OfJob j) → TextListed text 3 jobs_most
  -- A text that describes a set has the refusals of the set, but never 3, since its jobs were counted as they were read, nor 7, since the tables
  -- inside are long enough for every set.
  of-set : {number place : ℕ} (input : Input) → input_of text ≡ given input → length input.jobs ≤ jobs_most → (number ≡ 7 → ⊥)
      → Listed input.board input.jobs jobs_most slices_most number place → TextListed text number place
