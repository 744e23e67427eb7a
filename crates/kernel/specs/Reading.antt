-- Internal: no public promise cites this. What the functions that read the lines promise each other.
--   says_entry   the entry that the code's says
--   said_entry   the same where there is one
--   says_line    what the code's answer on a line says
--   slice_by     the slice of a kind, by the numbers of its line
--   slice_says   the entry of the record of a slice, by the numbers of its line: none where its kind is neither 1 nor 2
--   SaysCut      an answer on line i that is what every line says of which the cut is
--   counts       the counts of their two bytes
--   row_says     what line i gives the table: its form decides first, then its job, then its place
--   says_row     what the code's answer on such a line says
--   SaysRow      an answer on line i that is what every line gives of which the cut is
--   table_from   what the lines from the third on give
--   Column       a board with the numbers of its rows
--   column_said  of an answer that gives a board and its rows, the numbers of these
--   says_table   what the code's answer says, with the column that it has filled
--   rows_most    the most rows that a table in lines has: a byte counts them
--   Hands        an answer and a column that say what the lines give
-- Assumes nothing.
use Rattle.std.specs.Prelude.{cond, ◌||◌, List, [], ◌∷◌, ◌≡◌, ℕ, ◌/◌, ◌%◌, ◌≤◌, eqb, take, Option, None, Some, Result, Ok, Err, IfOk}
use Rattle.model.specs.Packed.{kind_of}
use Rattle.model.specs.Refusal.{Answer, given, says_refusal, and_then}
use Rattle.model.specs.declared.Board.{Board}
use Rattle.model.specs.declared.Kind.{Kind}
use Rattle.model.specs.declared.Refusal.{Refusal}
use Rattle.model.specs.declared.Slice.{Slice}
use Rattle.reader.specs.Cut.{line_in, CutAt}
use Rattle.reader.specs.declared.Cut.{Cut}
use Rattle.kernel.specs.Handed.{Entry, of-board, of-counts, of-share, of-slice, form_says, line_says, Counts, in_place, slices_from, Handed, column_of}
use Rattle.kernel.specs.declared.lines.Announced.{Announced}
use Rattle.kernel.specs.declared.lines.Said.{Said}
use Rattle.kernel.specs.declared.lines.Said.TheVariants.{OfBoard, OfCounts, OfShare, OfSlice}
use Rattle.kernel.specs.declared.lines.Table.{Table}

abbrev pub says_entry : Said → Entry
says_entry (OfBoard b) = of-board b
says_entry (OfCounts a) = of-counts a.jobs a.slices
says_entry (OfShare job) = of-share job
says_entry (OfSlice s) = of-slice s

abbrev pub said_entry : Option Said → Option Entry
said_entry None = None
said_entry (Some s) = Some (says_entry s)

abbrev pub says_line : Result Said Refusal → Answer Entry
says_line (Ok s) = given (says_entry s)
says_line (Err r) = says_refusal r

abbrev pub slice_by : Kind → Cut → Slice
slice_by kind cut =
    record { job = cut.head % 256; kind = kind; core = cut.a / 65536 % 256; start = cut.a % 65536; length = cut.b % 65536 }

unfoldable pub slice_says : Cut → Option Entry
slice_says cut =
    let kind : ℕ = cut.a / 16777216 in
    cond (eqb kind 1 || eqb kind 2) (Some (of-slice (slice_by (kind_of kind) cut))) None

pub record SaysCut (cut : Cut) (i : ℕ) (r : Result Said Refusal) : Type 0 where
  pub is : (rest : List ℕ) (from : ℕ) → CutAt rest from cut → says_line r ≡ form_says i (line_in rest)

abbrev pub counts : Announced → Counts
counts a = record { jobs = a.jobs; slices = a.slices }

abbrev pub row_says : Counts → ℕ → List ℕ → Answer (List Slice)
row_says c i line = and_then (line_says c.jobs i line) (in_place c i)

abbrev pub says_row : Result (Option Slice) Refusal → Answer (List Slice)
says_row (Ok (Some s)) = given (s ∷ [])
says_row (Ok None) = given []
says_row (Err r) = says_refusal r

pub record SaysRow (c : Counts) (cut : Cut) (i : ℕ) (r : Result (Option Slice) Refusal) : Type 0 where
  pub is : (rest : List ℕ) (from : ℕ) → CutAt rest from cut → says_row r ≡ row_says c i (line_in rest)

abbrev pub table_from : Board → Counts → List (List ℕ) → Answer Handed
table_from b c lines = and_then (slices_from c 3 lines) (λ (rows : List Slice). given (record { board = b; jobs = c.jobs; rows = rows }))

pub record Column : Type 0 where
  pub board : Board
  pub numbers : List ℕ

abbrev pub column_said : Answer Handed → Answer Column
column_said a = and_then a (λ (h : Handed). given (record { board = h.board; numbers = column_of h }))

abbrev pub says_table : Result Table Refusal → List ℕ → Answer Column
says_table (Ok t) column = given (record { board = t.board; numbers = take t.rows column })
says_table (Err r) column = says_refusal r

abbrev pub rows_most : ℕ
rows_most = 255

pub record Hands (answer : Answer Handed) (r : Result Table Refusal) (column : List ℕ) : Type 0 where
  pub says : says_table r column ≡ column_said answer
  pub few : IfOk r (λ (t : Table). t.rows ≤ rows_most)
