-- The records of the text, each written out here and nowhere else: docs/SPEC.md, "The text". A record is a first byte, which tells what it is, and
-- then its fields: numbers, each in so many bytes, the high byte first.
--   Form           what a record looks like: its first byte, and the bytes that each of its fields has
--   board_form     W, the cores of the first kind, those of the second
--   job_form       the kinds that are allowed (0 both, 1 first, 2 second), the cost on the first kind, that on the second
--   counts_form    the jobs of a plan, its slices
--   share_form     a job, its ticks on the first kind, those on the second
--   slice_form     a job, its kind (1 or 2), its core, its start, its length
--   refusal_form   a refusal's number, its place
--   size_of        the bytes of a record
--   line_size      the bytes of its line: two digits for each of those, and a line feed
--   spelled        numbers in fields of given bytes
--   record_of      the record with given numbers in its fields
--   is_a           whether bytes are such a record, by the first of them and by how many they are
--   fields_in      the numbers in fields of given bytes
--   field          the number in a field of a record, the first field being field 0
--   board_in       the board of its record
-- Assumes nothing.
use Rattle.std.specs.Prelude.{Bool, ◌&&◌, List, [], ◌∷◌, ◌++◌, ℕ, ◌+◌, ◌*◌, eqb, length, take, drop, get_or}
use Rattle.rows.specs.Lists.{sum_of}
use Rattle.model.specs.declared.Board.{Board}
use Rattle.text.specs.Hex.{in_bytes, number_in}

pub record Form : Type 0 where
  pub tag : ℕ
  pub widths : List ℕ

-- 01 and 02, which an input has.
abbrev pub board_form : Form
board_form = record { tag = 1; widths = 2 ∷ 1 ∷ 1 ∷ [] }

abbrev pub job_form : Form
job_form = record { tag = 2; widths = 1 ∷ 4 ∷ 4 ∷ [] }

-- 10, 11, 12 and 1f, which an answer has.
abbrev pub counts_form : Form
counts_form = record { tag = 16; widths = 1 ∷ 1 ∷ [] }

abbrev pub share_form : Form
share_form = record { tag = 17; widths = 1 ∷ 2 ∷ 2 ∷ [] }

abbrev pub slice_form : Form
slice_form = record { tag = 18; widths = 1 ∷ 1 ∷ 1 ∷ 2 ∷ 2 ∷ [] }

abbrev pub refusal_form : Form
refusal_form = record { tag = 31; widths = 1 ∷ 1 ∷ [] }

abbrev pub size_of : Form → ℕ
size_of f = 1 + sum_of (λ (w : ℕ). w) f.widths

abbrev pub line_size : Form → ℕ
line_size f = 2 * size_of f + 1

-- Every record here is made with a number for each of its fields.
abbrev pub spelled : (widths numbers : List ℕ) → List ℕ
spelled [] xs = []
spelled (w ∷ ws) [] = []
spelled (w ∷ ws) (x ∷ xs) = in_bytes w x ++ spelled ws xs

abbrev pub record_of : Form → List ℕ → List ℕ
record_of f xs = f.tag ∷ spelled f.widths xs

-- No bytes have no first one; but a record has one at the least, so that they are none.
abbrev pub is_a : Form → List ℕ → Bool
is_a f r = eqb (get_or r 0 0) f.tag && eqb (length r) (size_of f)

abbrev pub fields_in : (widths bytes : List ℕ) → List ℕ
fields_in [] bs = []
fields_in (w ∷ ws) bs = number_in (take w bs) ∷ fields_in ws (drop w bs)

-- Asked of bytes that are such a record, and of a field that it has.
abbrev pub field : Form → ℕ → List ℕ → ℕ
field f i r = get_or (fields_in f.widths (drop 1 r)) i 0

abbrev pub board_in : List ℕ → Board
board_in r = record { window = field board_form 0 r; first = field board_form 1 r; second = field board_form 2 r }
