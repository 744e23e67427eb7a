-- A checked table in bytes, to be asked at each tick: docs/SPEC.md, "The tick handler". The bytes are those of the records that its lines spell: the
-- board's, then one for each row (text's specs/Records.antt).
--   board_record   the record of a board
--   records_of     the records of slices, one behind the other
--   packed_of      the bytes of a board and the rows of a table
--   packed_most    the most bytes that they have, with as many rows as the counts' record can say
--   row_bytes      the bytes of row i
--   is_slice       whether bytes are the record of a slice, of kind 1 or 2
--   count_in       how many rows there are
--   is_packed      whether bytes are of the packed form: a board's record, then records of slices and nothing else
--   slice_of       the slice of its record
--   rows_in        the rows
--   packed_asked   the answer on packed bytes: refusal 9 where they are none, then 11, then what runs
--   packs          what packing a table answers: the count of the bytes, or the refusal of the table or of too few bytes
--   laid           lent bytes with new ones at their front where an answer gives a count; where it is a refusal they stay
--   Packs          what packing promises: the answer, and every lent byte
-- Assumes nothing.
use Rattle.std.specs.Prelude.{Bool, cond, not, ◌&&◌, ◌||◌, List, [], ◌∷◌, ◌++◌, ◌≡◌, ℕ, ◌+◌, ◌-◌, ◌*◌, ◌/◌, ◌%◌, eqb, ltb, length, take, drop, Option, Result}
use Rattle.rows.specs.Lists.{lowest, front}
use Rattle.rows.specs.Upto.{upto}
use Rattle.model.specs.Packed.{kind_of, slices_in}
use Rattle.model.specs.Refusal.{Answer, given, refused, says, and_then}
use Rattle.model.specs.declared.Board.{Board}
use Rattle.model.specs.declared.Refusal.{Refusal}
use Rattle.model.specs.declared.Slice.{Slice}
use Rattle.text.specs.Output.{slice_record}
use Rattle.text.specs.Records.{board_form, slice_form, size_of, record_of, is_a, field, board_in}
use Rattle.handler.specs.Check.{check_of}
use Rattle.handler.specs.Running.{is_beyond, running_in}

abbrev pub board_record : Board → List ℕ
board_record b = record_of board_form (b.window ∷ b.first ∷ b.second ∷ [])

abbrev pub records_of : List Slice → List ℕ
records_of [] = []
records_of (s ∷ rows) = slice_record s ++ records_of rows

abbrev pub packed_of : Board → List Slice → List ℕ
packed_of board rows = board_record board ++ records_of rows

-- A byte counts them.
abbrev pub packed_most : ℕ
packed_most = size_of board_form + size_of slice_form * 255

abbrev pub row_bytes : List ℕ → ℕ → List ℕ
row_bytes bytes i = take (size_of slice_form) (drop (size_of board_form + size_of slice_form * i) bytes)

abbrev pub is_slice : List ℕ → Bool
is_slice r = is_a slice_form r && (eqb (field slice_form 1 r) 1 || eqb (field slice_form 1 r) 2)

-- Asked of bytes that are a board's record at the least, so that the minus does not stop at 0.
abbrev pub count_in : List ℕ → ℕ
count_in bytes = (length bytes - size_of board_form) / size_of slice_form

unfoldable pub is_packed : List ℕ → Bool
is_packed bytes =
    is_a board_form (take (size_of board_form) bytes) &&
    (eqb ((length bytes - size_of board_form) % size_of slice_form) 0 &&
    eqb (lowest (λ (i : ℕ). not (is_slice (row_bytes bytes i))) (upto (count_in bytes) (λ i. i))) (count_in bytes))

abbrev pub slice_of : List ℕ → Slice
slice_of r =
    record {
      job = field slice_form 0 r;
      kind = kind_of (field slice_form 1 r);
      core = field slice_form 2 r;
      start = field slice_form 3 r;
      length = field slice_form 4 r;
    }

abbrev pub rows_in : List ℕ → List Slice
rows_in bytes = upto (count_in bytes) (λ i. slice_of (row_bytes bytes i))

-- The board and the rows are those of a table that was checked before it was packed: they are not checked again.
abbrev pub packed_asked : List ℕ → (tick kind core : ℕ) → Answer (Option ℕ)
packed_asked bytes tick kind core =
    cond (is_packed bytes)
    (cond (is_beyond (board_in (take (size_of board_form) bytes)) tick kind core) (refused 11 0) (given (running_in tick kind core (rows_in bytes))))
    (refused 9 0)

-- The table's checks come first, then 7. A number of rows or of a board that passes them has the bytes that its record has for it.
abbrev pub packs : Board → (xs before : List ℕ) → Answer ℕ
packs board xs before =
    let new : List ℕ = packed_of board (slices_in (length xs) xs) in
    and_then (check_of board xs) (λ (_ : Unit {0}). cond (ltb (length before) (length new)) (refused 7 0) (given (length new)))

abbrev pub laid : Answer ℕ → (new old : List ℕ) → List ℕ
laid (given n) new old = front new old
laid (refused number place) new old = old

pub record Packs (board : Board) (xs before after : List ℕ) (r : Result ℕ Refusal) : Type 0 where
  pub says : says r ≡ packs board xs before
  pub bytes : after ≡ laid (packs board xs before) (packed_of board (slices_in (length xs) xs)) before
