-- The input: a board's line, then a line for each job. docs/SPEC.md, "The text", and refusals 8, 9, 10 and 3.
--   job_in         the job of the fields of its record: the allowed kinds, the cost on the first kind, that on the second
--   entry_job      the entry of a job, where there is one
--   entry_of       the entry of a record, or none: unknown, of wrong length, or with a byte that may not be
--   record_says    the entry of line i's record, or refusal 9
--   bytes_say      the entry of line i's bytes, or refusal 8
--   line_says      the entry of line i, or refusal 8 or 9
--   Input          a board and its jobs
--   as_board       the board of an entry, or refusal 10
--   as_job         the job of an entry: refusal 10 for a board, refusal 3 for one job too many
--   jobs_from      the jobs of the lines after the first
--   input_from     the board and the jobs of lines, or the refusal of the first bad one
--   input_of       a text's board and jobs, or the refusal of its first bad line
--   head_of        an answer's board and the number of its jobs, as the code has them
--   jobs_given     an answer's jobs, and none where it is a refusal
--   short          whether columns of m1 and m2 rows are too short for some set
--   in_columns     an answer for such columns: refusal 7, last of all, where they are too short
--   read_of        what a text says for such columns
--   Gives          an answer of the code that says what a set gives, and every row of both columns after it
--   Reads          the reader's answer: what its text says
-- Assumes nothing.
use Rattle.std.specs.Prelude.{Bool, cond, ◌&&◌, ◌||◌, List, [], ◌∷◌, map, ◌≡◌, ℕ, ◌+◌, ◌≤◌, eqb, ltb, length, Option, None, Some, Result}
use Rattle.rows.specs.Lists.{front}
use Rattle.model.specs.Columns.{cost_on}
use Rattle.model.specs.Limits.{jobs_most, text_most}
use Rattle.model.specs.Refusal.{Answer, given, refused, says, and_then}
use Rattle.model.specs.declared.Board.{Board}
use Rattle.model.specs.declared.Job.{Job}
use Rattle.model.specs.declared.Job.TheVariants.{Both, OnlyFirst, OnlySecond}
use Rattle.model.specs.declared.Kind.TheVariants.{First, Second}
use Rattle.model.specs.declared.Refusal.{Refusal}
use Rattle.text.specs.Hex.{lines_of, bytes_of}
use Rattle.text.specs.Records.{board_form, job_form, is_a, field, board_in}
use Rattle.reader.specs.declared.Entry.{Entry}
use Rattle.reader.specs.declared.Entry.TheVariants.{OfBoard, OfJob}
use Rattle.reader.specs.declared.Head.{Head}

-- The cost of a kind that is not allowed has to be 0.
unfoldable pub job_in : (allowed c1 c2 : ℕ) → Option Job
job_in allowed c1 c2 =
    cond (eqb allowed 0) (Some (Both (record { 0 = c1 }) (record { 0 = c2 })))
    (cond (eqb allowed 1 && eqb c2 0) (Some (OnlyFirst (record { 0 = c1 })))
    (cond (eqb allowed 2 && eqb c1 0) (Some (OnlySecond (record { 0 = c2 }))) None))

abbrev pub entry_job : Option Job → Option Entry
entry_job None = None
entry_job (Some j) = Some (OfJob j)

unfoldable pub entry_of : List ℕ → Option Entry
entry_of r =
    cond (is_a board_form r) (Some (OfBoard (board_in r)))
    (cond (is_a job_form r) (entry_job (job_in (field job_form 0 r) (field job_form 1 r) (field job_form 2 r))) None)

abbrev pub record_says : ℕ → Option Entry → Answer Entry
record_says i None = refused 9 i
record_says i (Some e) = given e

abbrev pub bytes_say : ℕ → Option (List ℕ) → Answer Entry
bytes_say i None = refused 8 i
bytes_say i (Some bs) = record_says i (entry_of bs)

abbrev pub line_says : ℕ → List ℕ → Answer Entry
line_says i line = bytes_say i (bytes_of line)

pub record Input : Type 0 where
  pub board : Board
  pub jobs : List Job

abbrev pub as_board : ℕ → Entry → Answer Board
as_board i (OfBoard b) = given b
as_board i (OfJob j) = refused 10 i

-- n jobs were read before line i.
abbrev pub as_job : (i n : ℕ) → Entry → Answer Job
as_job i n (OfBoard b) = refused 10 i
as_job i n (OfJob j) = cond (ltb n jobs_most) (given j) (refused 3 jobs_most)

unfoldable pub jobs_from : (i n : ℕ) → List (List ℕ) → Answer (List Job)
jobs_from i n [] = given []
jobs_from i n (line ∷ lines) =
    and_then (line_says i line) (λ (e : Entry). and_then (as_job i n e) (λ (j : Job). and_then (jobs_from (i + 1) (n + 1) lines)
    (λ (js : List Job). given (j ∷ js))))

unfoldable pub input_from : List (List ℕ) → Answer Input
input_from [] = refused 10 1
input_from (line ∷ lines) =
    and_then (line_says 1 line) (λ (e : Entry). and_then (as_board 1 e) (λ (b : Board). and_then (jobs_from 2 0 lines)
    (λ (js : List Job). given (record { board = b; jobs = js }))))

-- Over 4,096 bytes is refused before any line.
unfoldable pub input_of : List ℕ → Answer Input
input_of text = cond (ltb text_most (length text)) (refused 8 0) (input_from (lines_of text))

abbrev pub head_of : Answer Input → Answer Head
head_of (given i) = given (record { board = i.board; jobs = length i.jobs })
head_of (refused n p) = refused n p

abbrev pub jobs_given : Answer Input → List Job
jobs_given (given i) = i.jobs
jobs_given (refused n p) = []

abbrev pub short : (m1 m2 : ℕ) → Bool
short m1 m2 = ltb m1 jobs_most || ltb m2 jobs_most

abbrev pub in_columns : Answer Input → (m1 m2 : ℕ) → Answer Input
in_columns answer m1 m2 = and_then answer (λ (i : Input). cond (short m1 m2) (refused 7 0) (given i))

abbrev pub read_of : List ℕ → (m1 m2 : ℕ) → Answer Input
read_of text m1 m2 = in_columns (input_of text) m1 m2

-- What is read of a set into columns c1 and c2, where `answer` is what these get of it.
pub record Gives (set answer : Answer Input) (c1 c2 : List ℕ) (r : Result Head Refusal) (c1' c2' : List ℕ) : Type 0 where
  pub says : says r ≡ head_of answer
  pub few : length (jobs_given set) ≤ jobs_most
  pub first : c1' ≡ front (map (cost_on First) (jobs_given answer)) c1
  pub second : c2' ≡ front (map (cost_on Second) (jobs_given answer)) c2

abbrev pub Reads : (text c1 c2 : List ℕ) → Result Head Refusal → (c1' c2' : List ℕ) → Type 0
Reads text c1 c2 r c1' c2' = Gives (input_of text) (read_of text (length c1) (length c2)) c1 c2 r c1' c2'
