-- Lines of hexadecimal: docs/SPEC.md, "The text". A record is a list of bytes, and stands in a line of its own.
--   joined        a byte at the front of the first of some lines
--   lines_of      the lines of a text: each ends at a line feed, and the last may lack it
--   nibble_of     the value of a hexadecimal digit, small or capital
--   byte_of       the byte of two digits' values
--   at_front      a byte at the front of bytes, where none is missing
--   pairs_of      the bytes of pairs of digits; an odd digit is none
--   bytes_of      the bytes of a line: some digits, an even number of them
--   glyph_of      the small digit of a number below 16
--   digits_of     the digits of bytes, two for each
--   line_of       the line that is written for a record: small letters, and a line feed
--   text_of       the lines of records, one behind the other
--   in_bytes      a number in so many bytes, the high byte first
--   number_from   the number that bytes spell behind a number
--   number_in     the number that bytes spell, the high byte first
-- Assumes nothing.
use Rattle.std.specs.Prelude.{Bool, cond, ◌&&◌, List, [], ◌∷◌, ◌++◌, ℕ, zero, suc, ◌+◌, ◌-◌, ◌*◌, ◌/◌, ◌%◌, leb, eqb, ltb, Option, None, Some}

abbrev pub joined : ℕ → List (List ℕ) → List (List ℕ)
joined b [] = (b ∷ []) ∷ []
joined b (l ∷ ls) = (b ∷ l) ∷ ls

unfoldable pub lines_of : List ℕ → List (List ℕ)
lines_of [] = []
lines_of (b ∷ bs) = cond (eqb b 10) ([] ∷ lines_of bs) (joined b (lines_of bs))

abbrev between : ℕ → ℕ → ℕ → Bool
between lo hi b = leb lo b && leb b hi

-- 0 to 9, a to f, A to F.
unfoldable pub nibble_of : ℕ → Option ℕ
nibble_of b =
    cond (between 48 57 b) (Some (b - 48)) (cond (between 97 102 b) (Some (b - 87)) (cond (between 65 70 b) (Some (b - 55)) None))

abbrev pub byte_of : Option ℕ → Option ℕ → Option ℕ
byte_of None l = None
byte_of (Some h) None = None
byte_of (Some h) (Some l) = Some (16 * h + l)

abbrev pub at_front : Option ℕ → Option (List ℕ) → Option (List ℕ)
at_front None bs = None
at_front (Some b) None = None
at_front (Some b) (Some bs) = Some (b ∷ bs)

unfoldable pub pairs_of : List ℕ → Option (List ℕ)
pairs_of [] = Some []
pairs_of (h ∷ []) = None
pairs_of (h ∷ l ∷ rest) = at_front (byte_of (nibble_of h) (nibble_of l)) (pairs_of rest)

-- A line with no digits is none.
unfoldable pub bytes_of : List ℕ → Option (List ℕ)
bytes_of [] = None
bytes_of (b ∷ bs) = pairs_of (b ∷ bs)

abbrev pub glyph_of : ℕ → ℕ
glyph_of x = cond (ltb x 10) (48 + x) (87 + x)

unfoldable pub digits_of : List ℕ → List ℕ
digits_of [] = []
digits_of (b ∷ bs) = glyph_of (b / 16) ∷ glyph_of (b % 16) ∷ digits_of bs

abbrev pub line_of : List ℕ → List ℕ
line_of bs = digits_of bs ++ (10 ∷ [])

unfoldable pub text_of : List (List ℕ) → List ℕ
text_of [] = []
text_of (r ∷ rs) = line_of r ++ text_of rs

-- Nothing is cut off: what is too great for its bytes has a first one that is none, so no line can be of it.
abbrev pub in_bytes : (width x : ℕ) → List ℕ
in_bytes zero x = []
in_bytes (suc zero) x = x ∷ []
in_bytes (suc (suc w)) x = in_bytes (suc w) (x / 256) ++ (x % 256 ∷ [])

unfoldable pub number_from : ℕ → List ℕ → ℕ
number_from n [] = n
number_from n (b ∷ bs) = number_from (256 * n + b) bs

abbrev pub number_in : List ℕ → ℕ
number_in bs = number_from 0 bs
