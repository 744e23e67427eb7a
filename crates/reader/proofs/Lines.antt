-- The first line of a text. The idea: the bytes before the first line feed are the first line, and the lines of what stands behind it are the others.
-- Assumes nothing.
use mathlib.Core.List.{List, [], ◌∷◌}
use mathlib.Core.Path.{◌≡◌}
use Prim.Native.Nat.{ℕ, suc, ◌+◌, ◌≤◌, ◌<◌}
use native.Mathlib.Omega.{arith}
use lib.ListN.{length, take, drop, get_or}
use lib.Seq.{drop-cons, drop-drop}
use Rattle.text.specs.Hex.{lines_of}
use Rattle.reader.specs.Cut.{line_length, line_in}

-- A line ends within its text.
pub line_length-fits : (bs : List ℕ) → line_length bs ≤ length bs
unfolding line_length
line_length-fits [] = omega arith
line_length-fits (b ∷ bs) = grind (arith, line_length-fits bs)

-- The first line and the others.
pub lines_of-first : (b : ℕ) (bs : List ℕ) → lines_of (b ∷ bs) ≡ take (line_length (b ∷ bs)) (b ∷ bs) ∷ lines_of (drop (suc (line_length (b ∷ bs))) (b ∷ bs))
unfolding lines_of line_length
lines_of-first b [] = grind arith
lines_of-first b (d ∷ bs) = grind (arith, lines_of-first d bs)

module _ (text : List ℕ) (at : ℕ) (within : at < length text) where
  -- The line at a place, and the lines behind its line feed.
  pub lines_of-at : (end : ℕ) → end ≡ at + line_length (drop at text) → lines_of (drop at text) ≡ line_in (drop at text) ∷ lines_of (drop (end + 1) text)
  lines_of-at end e =
      let m : end + 1 ≡ at + suc (line_length (drop at text)) = omega arith in
      rw (m, ← drop-drop (suc (line_length (drop at text))) at text) (first (drop at text) (drop-cons text at 0 within))
    where
      first : (bs : List ℕ) → bs ≡ get_or text at 0 ∷ drop (suc at) text → lines_of bs ≡ line_in bs ∷ lines_of (drop (suc (line_length bs)) bs)
      first bs h = rw h (lines_of-first (get_or text at 0) (drop (suc at) text))
