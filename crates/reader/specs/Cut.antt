-- A line of any record, cut where a job's fields begin: docs/SPEC.md, "The text". Who has its own records reads them from such numbers.
--   line_length   how many bytes a text's first line has
--   line_in       a text's first line, without its line feed
--   digit_then    a digit's value at the front of others; a byte that is no digit ends them
--   digits_in     the values of the digits that a text begins with
--   hex_from      the number that digits spell behind a number
--   hex_in        the number that digits spell, the high digit first
--   head_size     the bytes of a job before its costs
--   cost_size     the bytes of a cost
--   head_digits   the digits of those before the costs
--   cost_digits   the digits of a cost
--   size_in       how many bytes there are, where some are spelled
--   CutAt         what cutting promises of a text from a place on: how many bytes its first line spells, the numbers of its digits, where they end
--   board_by      the board of a board's line, by the numbers of its digits
-- proofs/Cuts.antt has what it says of the line's bytes. Assumes nothing.
use Rattle.std.specs.Prelude.{cond, List, [], ◌∷◌, ◌≡◌, ℕ, suc, ◌+◌, ◌*◌, ◌/◌, ◌%◌, eqb, length, take, drop, get_or, Option, None, Some}
use Rattle.model.specs.declared.Board.{Board}
use Rattle.text.specs.Hex.{nibble_of, bytes_of}
use Rattle.text.specs.Records.{job_form}
use Rattle.reader.specs.declared.Cut.{Cut}

unfoldable pub line_length : List ℕ → ℕ
line_length [] = 0
line_length (b ∷ bs) = cond (eqb b 10) 0 (suc (line_length bs))

abbrev pub line_in : List ℕ → List ℕ
line_in text = take (line_length text) text

abbrev pub digit_then : Option ℕ → List ℕ → List ℕ
digit_then None ds = []
digit_then (Some x) ds = x ∷ ds

unfoldable pub digits_in : List ℕ → List ℕ
digits_in [] = []
digits_in (b ∷ bs) = digit_then (nibble_of b) (digits_in bs)

unfoldable pub hex_from : ℕ → List ℕ → ℕ
hex_from n [] = n
hex_from n (d ∷ ds) = hex_from (16 * n + d) ds

abbrev pub hex_in : List ℕ → ℕ
hex_in ds = hex_from 0 ds

abbrev pub head_size : ℕ
head_size = 1 + get_or job_form.widths 0 0

abbrev pub cost_size : ℕ
cost_size = get_or job_form.widths 1 0

abbrev pub head_digits : ℕ
head_digits = 2 * head_size

abbrev pub cost_digits : ℕ
cost_digits = 2 * cost_size

abbrev pub size_in : Option (List ℕ) → Option ℕ
size_in None = None
size_in (Some bs) = Some (length bs)

-- The text from the place `from` on is `rest`. Where the digits are fewer than those of a job, the numbers are of as many as there are.
pub record CutAt (rest : List ℕ) (from : ℕ) (r : Cut) : Type 0 where
  pub size : r.size ≡ size_in (bytes_of (line_in rest))
  pub head : r.head ≡ hex_in (take head_digits (digits_in rest))
  pub a : r.a ≡ hex_in (take cost_digits (drop head_digits (digits_in rest)))
  pub b : r.b ≡ hex_in (take cost_digits (drop (head_digits + cost_digits) (digits_in rest)))
  pub end : r.end ≡ from + length (digits_in rest)

-- The first two bytes of its record are in `head`, and the other three in `a`.
abbrev pub board_by : Cut → Board
board_by cut = record { window = cut.head % 256 * 256 + cut.a / 65536 % 256; first = cut.a / 256 % 256; second = cut.a % 256 }
