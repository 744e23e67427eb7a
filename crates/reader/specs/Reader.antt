-- Internal: no public promise cites this. What the reader's functions promise each other.
--   is_end       whether a line ends here: at the end of the text, or at a line feed
--   entry_by     the entry of a record of so many bytes, or none, by the numbers of its line
--   size_says    the entry of line i, or refusal 8 or 9, by how many bytes it spells and by its numbers
--   cut_says     the same by its cut
--   set_from     what the lines after the board's give
--   GivesIn      an answer of the code that says what a set gives, as columns of their lengths get it
-- Assumes nothing.
use Rattle.std.specs.Prelude.{Bool, true, cond, ◌&&◌, List, [], ◌∷◌, ℕ, ◌/◌, ◌%◌, eqb, length, Option, None, Some, Result}
use Rattle.model.specs.Refusal.{Answer, given, refused, and_then}
use Rattle.model.specs.declared.Board.{Board}
use Rattle.model.specs.declared.Job.{Job}
use Rattle.model.specs.declared.Refusal.{Refusal}
use Rattle.text.specs.Records.{board_form, job_form, size_of}
use Rattle.reader.specs.Input.{Input, job_in, entry_job, record_says, jobs_from, in_columns, Gives}
use Rattle.reader.specs.Cut.{board_by}
use Rattle.reader.specs.declared.Entry.{Entry}
use Rattle.reader.specs.declared.Entry.TheVariants.{OfBoard}
use Rattle.reader.specs.declared.Cut.{Cut}
use Rattle.reader.specs.declared.Head.{Head}

abbrev pub is_end : List ℕ → Bool
is_end [] = true
is_end (b ∷ bs) = eqb b 10

-- The tests of `entry_of`, by numbers.
abbrev pub entry_by : Cut → (size : ℕ) → Option Entry
entry_by cut size =
    cond (eqb (cut.head / 256) board_form.tag && eqb size (size_of board_form)) (Some (OfBoard (board_by cut)))
    (cond (eqb (cut.head / 256) job_form.tag && eqb size (size_of job_form)) (entry_job (job_in (cut.head % 256) cut.a cut.b)) None)

abbrev pub size_says : ℕ → Cut → Option ℕ → Answer Entry
size_says i cut None = refused 8 i
size_says i cut (Some size) = record_says i (entry_by cut size)

abbrev pub cut_says : ℕ → Cut → Answer Entry
cut_says i cut = size_says i cut cut.size

abbrev pub set_from : Board → List (List ℕ) → Answer Input
set_from b lines = and_then (jobs_from 2 0 lines) (λ (js : List Job). given (record { board = b; jobs = js }))

abbrev pub GivesIn : Answer Input → (c1 c2 : List ℕ) → Result Head Refusal → (c1' c2' : List ℕ) → Type 0
GivesIn set c1 c2 r c1' c2' = Gives set (in_columns set (length c1) (length c2)) c1 c2 r c1' c2'
