-- The lines that the board's kernel hands over: the board's, then those of a plan. docs/SPEC.md, "The tick handler", and refusals 8, 9 and 10.
--   Entry        what a line says by its form: a board, the counts, the share of a job, a slice
--   entry_of      the entry of a record, or none: unknown here, of wrong length, or of a kind that is neither 1 nor 2
--   record_says   the entry of line i's record, or refusal 9
--   bytes_say     the entry of line i's bytes, or refusal 8
--   form_says     the entry of line i, or refusal 8 or 9
--   has_job       whether the job that an entry names, where it names one, is below a number
--   line_says     the same of a line after the counts': refusal 9 too for a job that is not below their number
--   as_board      the board of line i's entry, or refusal 10
--   Counts       the numbers of jobs and of slices
--   as_counts     the counts of line i's entry, or refusal 10
--   in_place      the slices, one or none, of an entry that may stand at line i, or refusal 10
--   slices_from   the slices of the lines from line i on, or the refusal of the first bad one; where a line is missing, of the one after the last
--   Handed       a board, the number of its jobs, and the rows of its table
--   counts_from, handed_from   what the lines after the board's give, and what all lines give
--   handed_of     a text's board and table, or the refusal of its first bad line
--   tick_of       the answer on lines: their refusal, then that of the handler, then what runs
--   column_of     the table as a column of numbers, as the handler takes it
--   PacksFor     what packing lines promises: that of their table, or their refusal and no byte changed
-- Assumes nothing.
use Rattle.std.specs.Prelude.{Bool, true, cond, ◌&&◌, List, [], ◌∷◌, ◌++◌, map, ◌≡◌, ℕ, ◌+◌, eqb, leb, ltb, length, Option, None, Some, Result}
use Rattle.model.specs.Limits.{text_most}
use Rattle.model.specs.Packed.{pack_of}
use Rattle.model.specs.Refusal.{Answer, given, refused, says, and_then}
use Rattle.model.specs.declared.Board.{Board}
use Rattle.model.specs.declared.Refusal.{Refusal}
use Rattle.model.specs.declared.Slice.{Slice}
use Rattle.text.specs.Hex.{lines_of, bytes_of}
use Rattle.text.specs.Records.{board_form, counts_form, share_form, is_a, field, board_in}
use Rattle.handler.specs.Running.{asked_of}
use Rattle.packed.specs.Packed.{is_slice, slice_of, Packs}

pub data Entry : Type 0 where
  of-board : Board → Entry
  of-counts : (jobs slices : ℕ) → Entry
  of-share : (job : ℕ) → Entry
  of-slice : Slice → Entry

-- The ticks of a share are not read.
unfoldable pub entry_of : List ℕ → Option Entry
entry_of r =
    cond (is_a board_form r) (Some (of-board (board_in r)))
    (cond (is_a counts_form r) (Some (of-counts (field counts_form 0 r) (field counts_form 1 r)))
    (cond (is_a share_form r) (Some (of-share (field share_form 0 r)))
    (cond (is_slice r) (Some (of-slice (slice_of r))) None)))

abbrev pub record_says : ℕ → Option Entry → Answer Entry
record_says i None = refused 9 i
record_says i (Some e) = given e

abbrev pub bytes_say : ℕ → Option (List ℕ) → Answer Entry
bytes_say i None = refused 8 i
bytes_say i (Some bs) = record_says i (entry_of bs)

abbrev pub form_says : ℕ → List ℕ → Answer Entry
form_says i line = bytes_say i (bytes_of line)

abbrev pub has_job : ℕ → Entry → Bool
has_job n (of-board b) = true
has_job n (of-counts jobs slices) = true
has_job n (of-share job) = ltb job n
has_job n (of-slice s) = ltb s.job n

abbrev pub line_says : (n i : ℕ) → List ℕ → Answer Entry
line_says n i line = and_then (form_says i line) (λ (e : Entry). cond (has_job n e) (given e) (refused 9 i))

abbrev pub as_board : ℕ → Entry → Answer Board
as_board i (of-board b) = given b
as_board i (of-counts jobs slices) = refused 10 i
as_board i (of-share job) = refused 10 i
as_board i (of-slice s) = refused 10 i

pub record Counts : Type 0 where
  pub jobs : ℕ
  pub slices : ℕ

abbrev pub as_counts : ℕ → Entry → Answer Counts
as_counts i (of-board b) = refused 10 i
as_counts i (of-counts jobs slices) = given (record { jobs = jobs; slices = slices })
as_counts i (of-share job) = refused 10 i
as_counts i (of-slice s) = refused 10 i

-- Line 3 is for the share of job 0, and so on; behind the shares come the slices, in any order.
abbrev pub in_place : Counts → ℕ → Entry → Answer (List Slice)
in_place c i (of-board b) = refused 10 i
in_place c i (of-counts jobs slices) = refused 10 i
in_place c i (of-share job) = cond (eqb i (job + 3)) (given []) (refused 10 i)
in_place c i (of-slice s) = cond (leb (c.jobs + 3) i && ltb i (c.jobs + c.slices + 3)) (given (s ∷ [])) (refused 10 i)

unfoldable pub slices_from : Counts → ℕ → List (List ℕ) → Answer (List Slice)
slices_from c i [] = cond (ltb i (c.jobs + c.slices + 3)) (refused 10 i) (given [])
slices_from c i (line ∷ lines) =
    and_then (line_says c.jobs i line) (λ (e : Entry). and_then (in_place c i e) (λ (here : List Slice).
    and_then (slices_from c (i + 1) lines) (λ (rows : List Slice). given (here ++ rows))))

pub record Handed : Type 0 where
  pub board : Board
  pub jobs : ℕ
  pub rows : List Slice

unfoldable pub counts_from : Board → List (List ℕ) → Answer Handed
counts_from b [] = refused 10 2
counts_from b (line ∷ lines) =
    and_then (form_says 2 line) (λ (e : Entry). and_then (as_counts 2 e) (λ (c : Counts).
    and_then (slices_from c 3 lines) (λ (rows : List Slice). given (record { board = b; jobs = c.jobs; rows = rows }))))

unfoldable pub handed_from : List (List ℕ) → Answer Handed
handed_from [] = refused 10 1
handed_from (line ∷ lines) = and_then (form_says 1 line) (λ (e : Entry). and_then (as_board 1 e) (λ (b : Board). counts_from b lines))

-- Over 4,096 bytes is refused before any line.
unfoldable pub handed_of : List ℕ → Answer Handed
handed_of text = cond (ltb text_most (length text)) (refused 8 0) (handed_from (lines_of text))

abbrev pub column_of : Handed → List ℕ
column_of h = map pack_of h.rows

abbrev pub tick_of : List ℕ → (tick kind core : ℕ) → Answer (Option ℕ)
tick_of text tick kind core = and_then (handed_of text) (λ (h : Handed). asked_of h.board (column_of h) tick kind core)

-- Where the lines are refused no table is packed.
abbrev pub PacksFor : Answer Handed → (before after : List ℕ) → Result ℕ Refusal → Type 0
PacksFor (given h) before after r = Packs h.board (column_of h) before after r
PacksFor (refused number place) before after r = (says r ≡ refused number place) × (after ≡ before)
