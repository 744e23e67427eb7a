-- What is written is read back by the rules of the format: the lines, the bytes of each, and a number of two bytes. The one idea: no digit is
-- a line feed, and the value of a digit that was written for a number is that number. Assumes nothing.
use mathlib.Core.Bool.{false}
use mathlib.Core.Path.{◌≡◌, refl}
use mathlib.Core.List.{List, [], ◌∷◌, ◌++◌, map}
use Prim.Native.Nat.{ℕ, zero, suc, ◌+◌, ◌*◌, ◌/◌, ◌%◌, ◌<◌}
use native.Mathlib.Omega.{arith}
use lib.Dec.{eqb}
use lib.ListN.{length}
use Rattle.std.specs.Prelude.{Some}
use Rattle.rows.specs.Lists.{All}
use Rattle.text.specs.Hex.{lines_of, nibble_of, pairs_of, bytes_of, glyph_of, digits_of, line_of, text_of, in_bytes, number_from, number_in}

-- A record is some bytes.
abbrev pub IsRecord : List ℕ → Type 0
IsRecord r = (0 < length r) × All (λ (b : ℕ). b < 256) r

glyph-no-feed : (x : ℕ) → eqb (glyph_of x) 10 ≡ false
glyph-no-feed x = grind (arith)

line-back : (r t : List ℕ) → lines_of (line_of r ++ t) ≡ digits_of r ∷ lines_of t
unfolding lines_of digits_of
line-back [] t = refl
line-back (b ∷ bs) t = grind (arith, glyph-no-feed, line-back bs t)

pub lines-back : (rs : List (List ℕ)) → lines_of (text_of rs) ≡ map digits_of rs
unfolding lines_of text_of
lines-back [] = refl
lines-back (r ∷ rs) = rw (line-back r (text_of rs), lines-back rs)

nibble-back : (x : ℕ) → x < 16 → nibble_of (glyph_of x) ≡ Some x
unfolding nibble_of
nibble-back x small = grind (arith)

pairs-back : (r : List ℕ) → All (λ (b : ℕ). b < 256) r → pairs_of (digits_of r) ≡ Some r
unfolding pairs_of digits_of
pairs-back [] small = refl
pairs-back (b ∷ bs) small = grind (arith, nibble-back, pairs-back bs small.1)

pub bytes_back : (r : List ℕ) → IsRecord r → bytes_of (digits_of r) ≡ Some r
unfolding bytes_of digits_of
bytes_back [] is_record = absurd (omega arith)
bytes_back (b ∷ bs) is_record = pairs-back (b ∷ bs) is_record.1

-- the records of a text that was written are those that were written
pub read_back : (rs : List (List ℕ)) → All IsRecord rs → map bytes_of (lines_of (text_of rs)) ≡ map (λ (r : List ℕ). Some r) rs
read_back rs are = rw (lines-back rs) (go rs are) where
  go : (qs : List (List ℕ)) → All IsRecord qs → map bytes_of (map digits_of qs) ≡ map (λ (r : List ℕ). Some r) qs
  go [] are = refl
  go (q ∷ qs) are = rw (bytes_back q are.0, go qs are.1)

-- A number in bytes is the number that they spell.
number_from-append : (n : ℕ) (bs cs : List ℕ) → number_from n (bs ++ cs) ≡ number_from (number_from n bs) cs
unfolding number_from
number_from-append n [] cs = refl
number_from-append n (b ∷ bs) cs = number_from-append (256 * n + b) bs cs

pub in_bytes-back : (w x : ℕ) → number_in (in_bytes (suc w) x) ≡ x
unfolding number_from
in_bytes-back zero x = omega arith
in_bytes-back (suc w) x = grind (arith, number_from-append 0 (in_bytes (suc w) (x / 256)) (x % 256 ∷ []), in_bytes-back w (x / 256))
