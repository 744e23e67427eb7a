-- The digits that crate hex writes are those of the format. Assumes nothing.
use Rattle.std.proofs.Common.{◌≡◌, ℕ, suc, ◌+◌, ◌/◌, ◌%◌, ◌<◌, List, [], ◌∷◌, ◌++◌, refl, arith, slice_index, length, drop, get_or, set}
use Rattle.std.proofs.Math.ListN.{drop_of_length-le}
use Rattle.std.proofs.Math.Seq.{drop-cons, set_at}
use Rattle.hex.specs.Hex.{encode_with, encode_lower, lower_digits}
use Rattle.text.specs.Hex.{glyph_of, digits_of}

glyph-at : (x : ℕ) → x < 16 → slice_index lower_digits x ≡ glyph_of x
glyph-at x small = grind (arith)

pub digits_encoded : (bs : List ℕ) → ((i : ℕ) → get_or bs i 0 < 256) → encode_lower bs ≡ digits_of bs
unfolding encode_with digits_of
digits_encoded [] fits = refl
digits_encoded (b ∷ bs) fits =
    let small : b < 256 = fits 0 in
    rw (glyph-at (b / 16) (omega arith), glyph-at (b % 16) (omega arith), digits_encoded bs (λ i. fits (suc i)))

-- the last byte of a line, behind all others
pub last_set : (xs line : List ℕ) (n v : ℕ) → length xs ≡ n → length line ≡ n + 1 → set (xs ++ drop n line) n v ≡ xs ++ v ∷ []
last_set xs line n v is one =
    rw (drop-cons line n v (omega arith), set_at xs (get_or line n v) (drop (suc n) line) v n is, drop_of_length-le line {i = suc n} (omega arith))
