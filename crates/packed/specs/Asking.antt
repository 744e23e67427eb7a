-- Internal: no public promise cites this. What the functions that ask packed bytes promise each other, of rows as bytes.
--   is_headed   whether bytes begin with a board's record, and have as many behind it as some rows have
--   Parts       such bytes in their parts: the board's record, and the rows
--   is_there    whether a row is on a core and runs at a tick: of a slice's record, what is asked of its slice
--   job_of      the job of the first row that is there
--   rows_say    the answer of rows: refusal 9 where one is no record of a slice, then what runs
-- Assumes nothing.
use Rattle.std.specs.Prelude.{Bool, true, cond, ◌&&◌, List, ◌≡◌, ℕ, ◌+◌, ◌-◌, ◌%◌, eqb, leb, ltb, length, take, Option, find}
use Rattle.std.specs.List.{list_all}
use Rattle.std.specs.Option.{option_map}
use Rattle.rows.specs.Upto.{upto}
use Rattle.model.specs.Refusal.{Answer, given, refused}
use Rattle.text.specs.Records.{board_form, slice_form, size_of, is_a, field}
use Rattle.packed.specs.Packed.{row_bytes, is_slice, count_in}

abbrev pub is_headed : List ℕ → Bool
is_headed bytes = is_a board_form (take (size_of board_form) bytes) && eqb ((length bytes - size_of board_form) % size_of slice_form) 0

pub record Parts (bytes head : List ℕ) (rows : List (List ℕ)) : Type 0 where
  pub headed : is_headed bytes ≡ true
  pub front : head ≡ take (size_of board_form) bytes
  pub behind : rows ≡ upto (count_in bytes) (row_bytes bytes)

abbrev pub is_there : (tick kind core : ℕ) → List ℕ → Bool
is_there tick kind core r =
    eqb (field slice_form 1 r) kind && (eqb (field slice_form 2 r) core
    && (leb (field slice_form 3 r) tick && ltb tick (field slice_form 3 r + field slice_form 4 r)))

abbrev pub job_of : (tick kind core : ℕ) → List (List ℕ) → Option ℕ
job_of tick kind core rows = option_map (field slice_form 0) (find (is_there tick kind core) rows)

abbrev pub rows_say : (tick kind core : ℕ) → List (List ℕ) → Answer (Option ℕ)
rows_say tick kind core rows = cond (list_all is_slice rows) (given (job_of tick kind core rows)) (refused 9 0)
