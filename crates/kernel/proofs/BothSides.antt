-- Both sides of each line that the definitions of this crate draw, worked out on short lists of lines. What is held, in this order:
--   handed_from   a whole text, with no row and with two in any order; each field with two bytes
--   10            no line, one line, a share or a slice that is missing, each at the line after the last; a line too many; shares exchanged; a slice
--                 before the last share; a board, counts and slices where they do not belong
--   9             a job at the number and one below it, before 10; kinds 0 to 3; records of other texts, and of wrong length
--   8             an odd digit, before both; a blank line
--   handed_of     4,096 bytes and one more
--   tick_of       the lines' refusal before the table's; the board's last tick, and the one after it
-- It stands first, so that a definition that is made weaker is refused at an example. Assumes nothing.
use mathlib.Core.List.{List, [], ◌∷◌, map}
use mathlib.Core.Path.{◌≡◌, refl}
use Prim.Native.Nat.{ℕ}
use lib.ListN.{replicate}
use Rattle.std.specs.Prelude.{None}
use Rattle.rows.specs.Lists.{lowest}
use Rattle.model.specs.Packed.{pack_of, slice_in}
use Rattle.model.specs.Refusal.{Answer, given, refused}
use Rattle.model.specs.declared.Kind.TheVariants.{First, Second}
use Rattle.model.specs.declared.Slice.{Slice}
use Rattle.model.proofs.BothSides.{row}
use Rattle.text.specs.Hex.{lines_of, nibble_of, pairs_of, bytes_of, digits_of, text_of, number_from}
use Rattle.legal.specs.Legal.{on_board}
use Rattle.handler.specs.Check.{is_row, collision_of, check_of}
use Rattle.handler.specs.Running.{running_in}
use Rattle.kernel.specs.Handed.{entry_of, slices_from, Handed, counts_from, handed_from, handed_of, column_of, tick_of}

-- Lines that spell records.
abbrev read : List (List ℕ) → Answer Handed
read records = handed_from (map digits_of records)

-- A window of 300 ticks, one core of the first kind and two of the second.
abbrev board : List ℕ
board = 1 ∷ 1 ∷ 44 ∷ 1 ∷ 2 ∷ []

abbrev counts : (jobs slices : ℕ) → List ℕ
counts jobs slices = 16 ∷ jobs ∷ slices ∷ []

abbrev share : ℕ → List ℕ
share job = 17 ∷ job ∷ 0 ∷ 6 ∷ 0 ∷ 0 ∷ []

-- On core 1, from tick 258 for 260 ticks.
abbrev slice : (job kind : ℕ) → List ℕ
slice job kind = 18 ∷ job ∷ kind ∷ 1 ∷ 1 ∷ 2 ∷ 1 ∷ 4 ∷ []

abbrev table : (jobs : ℕ) → List Slice → Handed
table jobs rows = record { board = record { window = 300; first = 1; second = 2 }; jobs = jobs; rows = rows }

-- ==== handed_from
pub whole : read (board ∷ counts 2 2 ∷ share 0 ∷ share 1 ∷ slice 1 2 ∷ slice 0 1 ∷ []) ≡ given (table 2 (row 1 Second 1 258 260 ∷ row 0 First 1 258 260 ∷ []))
unfolding nibble_of pairs_of bytes_of digits_of number_from entry_of slices_from counts_from handed_from
whole = refl

pub whole-column : column_of (table 2 (row 1 Second 1 258 260 ∷ [])) ≡ 285877351809537 ∷ []
unfolding pack_of
whole-column = refl

pub no_row : read (board ∷ counts 0 0 ∷ []) ≡ given (table 0 [])
unfolding nibble_of pairs_of bytes_of digits_of number_from entry_of slices_from counts_from handed_from
no_row = refl

-- ==== 10: a line that is missing
pub missing-board : read [] ≡ refused 10 1
unfolding handed_from
missing-board = refl

pub missing-counts : read (board ∷ []) ≡ refused 10 2
unfolding nibble_of pairs_of bytes_of digits_of number_from entry_of slices_from counts_from handed_from
missing-counts = refl

pub missing-share : read (board ∷ counts 2 0 ∷ share 0 ∷ []) ≡ refused 10 4
unfolding nibble_of pairs_of bytes_of digits_of number_from entry_of slices_from counts_from handed_from
missing-share = refl

pub missing-slice : read (board ∷ counts 1 2 ∷ share 0 ∷ slice 0 1 ∷ []) ≡ refused 10 5
unfolding nibble_of pairs_of bytes_of digits_of number_from entry_of slices_from counts_from handed_from
missing-slice = refl

-- ==== 10: a line out of its order, or beyond the numbers
pub shares-exchanged : read (board ∷ counts 2 0 ∷ share 1 ∷ share 0 ∷ []) ≡ refused 10 3
unfolding nibble_of pairs_of bytes_of digits_of number_from entry_of slices_from counts_from handed_from
shares-exchanged = refl

pub share_twice : read (board ∷ counts 2 0 ∷ share 0 ∷ share 0 ∷ []) ≡ refused 10 4
unfolding nibble_of pairs_of bytes_of digits_of number_from entry_of slices_from counts_from handed_from
share_twice = refl

pub slice-early : read (board ∷ counts 2 1 ∷ share 0 ∷ slice 0 1 ∷ share 1 ∷ []) ≡ refused 10 4
unfolding nibble_of pairs_of bytes_of digits_of number_from entry_of slices_from counts_from handed_from
slice-early = refl

pub slice-too-many : read (board ∷ counts 1 1 ∷ share 0 ∷ slice 0 1 ∷ slice 0 2 ∷ []) ≡ refused 10 5
unfolding nibble_of pairs_of bytes_of digits_of number_from entry_of slices_from counts_from handed_from
slice-too-many = refl

pub board-twice : read (board ∷ counts 1 0 ∷ share 0 ∷ board ∷ []) ≡ refused 10 4
unfolding nibble_of pairs_of bytes_of digits_of number_from entry_of slices_from counts_from handed_from
board-twice = refl

pub counts-twice : read (board ∷ counts 1 0 ∷ counts 1 0 ∷ []) ≡ refused 10 3
unfolding nibble_of pairs_of bytes_of digits_of number_from entry_of slices_from counts_from handed_from
counts-twice = refl

pub counts-first : read (counts 0 0 ∷ board ∷ []) ≡ refused 10 1
unfolding nibble_of pairs_of bytes_of digits_of number_from entry_of handed_from
counts-first = refl

-- No number of jobs has been read where it should stand, so that the line is judged by its form alone.
pub slice-second : read (board ∷ slice 200 1 ∷ []) ≡ refused 10 2
unfolding nibble_of pairs_of bytes_of digits_of number_from entry_of counts_from handed_from
slice-second = refl

-- ==== 9
pub kind-three-second : read (board ∷ slice 200 3 ∷ []) ≡ refused 9 2
unfolding nibble_of pairs_of bytes_of digits_of number_from entry_of counts_from handed_from
kind-three-second = refl

pub kind-none : read (board ∷ counts 1 1 ∷ share 0 ∷ slice 0 0 ∷ []) ≡ refused 9 4
unfolding nibble_of pairs_of bytes_of digits_of number_from entry_of slices_from counts_from handed_from
kind-none = refl

pub kind-three : read (board ∷ counts 1 1 ∷ share 0 ∷ slice 0 3 ∷ []) ≡ refused 9 4
unfolding nibble_of pairs_of bytes_of digits_of number_from entry_of slices_from counts_from handed_from
kind-three = refl

-- Each of these lines is out of its order too, but for its job.
pub share-at-number : read (board ∷ counts 1 0 ∷ share 1 ∷ []) ≡ refused 9 3
unfolding nibble_of pairs_of bytes_of digits_of number_from entry_of slices_from counts_from handed_from
share-at-number = refl

pub slice-at-number : read (board ∷ counts 2 1 ∷ slice 2 1 ∷ []) ≡ refused 9 3
unfolding nibble_of pairs_of bytes_of digits_of number_from entry_of slices_from counts_from handed_from
slice-at-number = refl

pub slice-below-number : read (board ∷ counts 2 1 ∷ slice 1 1 ∷ []) ≡ refused 10 3
unfolding nibble_of pairs_of bytes_of digits_of number_from entry_of slices_from counts_from handed_from
slice-below-number = refl

-- A job's line, a refusal's, and a board's with a byte too many.
pub job-unknown : read ((2 ∷ 0 ∷ 0 ∷ 0 ∷ 0 ∷ 6 ∷ 0 ∷ 0 ∷ 0 ∷ 9 ∷ []) ∷ []) ≡ refused 9 1
unfolding nibble_of pairs_of bytes_of digits_of number_from entry_of handed_from
job-unknown = refl

pub refusal-unknown : read (board ∷ (31 ∷ 6 ∷ 0 ∷ []) ∷ []) ≡ refused 9 2
unfolding nibble_of pairs_of bytes_of digits_of number_from entry_of counts_from handed_from
refusal-unknown = refl

pub board-long : read ((1 ∷ 1 ∷ 44 ∷ 1 ∷ 2 ∷ 0 ∷ []) ∷ []) ≡ refused 9 1
unfolding nibble_of pairs_of bytes_of digits_of number_from entry_of handed_from
board-long = refl

-- ==== 8: 3 digits of a slice whose job is none, at the place of the counts; no digit
pub odd-digit : handed_from (digits_of board ∷ (49 ∷ 50 ∷ 48 ∷ []) ∷ []) ≡ refused 8 2
unfolding nibble_of pairs_of bytes_of digits_of number_from entry_of counts_from handed_from
odd-digit = refl

pub blank : handed_from ([] ∷ []) ≡ refused 8 1
unfolding bytes_of handed_from
blank = refl

-- ==== handed_of
pub text-longest : handed_of (replicate 4096 10) ≡ refused 8 1
unfolding lines_of bytes_of handed_from handed_of
text-longest = refl

pub text-longer : handed_of (replicate 4097 10) ≡ refused 8 0
unfolding handed_of
text-longer = refl

-- ==== tick_of: the slice goes on past the window's end
pub tick-lines-first : tick_of (text_of (board ∷ counts 1 1 ∷ share 0 ∷ slice 0 2 ∷ slice 0 2 ∷ [])) 0 2 1 ≡ refused 10 5
unfolding lines_of nibble_of pairs_of bytes_of digits_of text_of number_from entry_of slices_from counts_from handed_from handed_of
tick-lines-first = refl

pub tick-table-next : tick_of (text_of (board ∷ counts 1 1 ∷ share 0 ∷ slice 0 2 ∷ [])) 0 2 1 ≡ refused 12 0
unfolding lines_of nibble_of pairs_of bytes_of digits_of text_of number_from entry_of slices_from counts_from handed_from handed_of pack_of slice_in lowest is_row check_of on_board
tick-table-next = refl

pub tick-last : tick_of (text_of (board ∷ counts 0 0 ∷ [])) 299 2 1 ≡ given None
unfolding lines_of nibble_of pairs_of bytes_of digits_of text_of number_from entry_of slices_from counts_from handed_from handed_of lowest collision_of check_of running_in on_board
tick-last = refl

pub tick-after-last : tick_of (text_of (board ∷ counts 0 0 ∷ [])) 300 2 1 ≡ refused 11 0
unfolding lines_of nibble_of pairs_of bytes_of digits_of text_of number_from entry_of slices_from counts_from handed_from handed_of lowest collision_of check_of on_board
tick-after-last = refl
