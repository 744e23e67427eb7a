-- Records by the numbers of their bytes, cut as a job's are: which form they have, and what a board's says. The idea: the tests come out by the first
-- byte and the length, and a number's bytes are its digits to the base 256. Assumes nothing.
use mathlib.Core.Bool.{Bool, true, false, ◌&&◌}
use mathlib.Core.List.{List, [], ◌∷◌}
use mathlib.Core.Path.{◌≡◌, refl}
use Prim.Native.Nat.{ℕ, ◌+◌, ◌*◌, ◌/◌, ◌%◌, ◌<◌}
use native.Mathlib.Omega.{arith}
use borrow.Author.Tests.{eq-eqb, eqb-true}
use lib.Dec.{eqb}
use lib.ListN.{length, take, drop, get_or}
use Rattle.std.proofs.lemmas.Bool.Decides.{nat_tests}
use Rattle.rows.specs.Lists.{All}
use Rattle.model.specs.declared.Board.{Board}
use Rattle.text.specs.Hex.{number_from, number_in}
use Rattle.text.specs.Records.{Form, board_form, size_of, is_a, board_in}

-- Whether bytes are a record of a form, by what the code finds out.
module _ (f : Form) (bs : List ℕ) where
  pub is_a-so : get_or bs 0 0 ≡ f.tag → length bs ≡ size_of f → is_a f bs ≡ true
  is_a-so tag size = rw (eq-eqb _ _ tag, eq-eqb _ _ size)

  pub is_a-not : (get_or bs 0 0 ≡ f.tag → length bs ≡ size_of f → ⊥) → is_a f bs ≡ false
  is_a-not never = go (eqb (get_or bs 0 0) f.tag) refl (eqb (length bs) (size_of f)) refl
    where
      go : (p : Bool) → eqb (get_or bs 0 0) f.tag ≡ p → (q : Bool) → eqb (length bs) (size_of f) ≡ q → p && q ≡ false
      go true e true g = absurd (never (eqb-true _ _ e) (eqb-true _ _ g))
      go true e false g = refl
      go false e q g = refl

-- The first two bytes.
pub head-parts : (bs : List ℕ) → All (λ (b : ℕ). b < 256) bs → 1 < length bs
    → (number_in (take 2 bs) / 256 ≡ get_or bs 0 0) × (number_in (take 2 bs) % 256 ≡ number_in (take 1 (drop 1 bs)))
unfolding number_from
head-parts [] small size = absurd (omega arith)
head-parts (t ∷ []) small size = absurd (omega arith)
head-parts (t ∷ b ∷ bs) small size = let l : b < 256 = small.1.0 in (omega arith, omega arith)

-- The tests of a form, by the number of those two.
pub is_a-by : (f : Form) (bs : List ℕ) → All (λ (b : ℕ). b < 256) bs → 1 < size_of f
    → is_a f bs ≡ (eqb (number_in (take 2 bs) / 256) f.tag && eqb (length bs) (size_of f))
is_a-by f bs small more = grind (arith, nat_tests, head-parts bs small)

-- A board's.
pub board-parts : (bs : List ℕ) → length bs ≡ size_of board_form → All (λ (b : ℕ). b < 256) bs
    → ◌≡◌ {A = Board} (board_in bs)
    (record { window = number_in (take 2 bs) % 256 * 256 + number_in (take 4 (drop 2 bs)) / 65536 % 256; first = number_in (take 4 (drop 2 bs)) / 256 % 256; second = number_in (take 4 (drop 2 bs)) % 256 })
unfolding number_from
board-parts [] n small = absurd (omega arith)
board-parts (t ∷ []) n small = absurd (omega arith)
board-parts (t ∷ b1 ∷ []) n small = absurd (omega arith)
board-parts (t ∷ b1 ∷ b2 ∷ []) n small = absurd (omega arith)
board-parts (t ∷ b1 ∷ b2 ∷ b3 ∷ []) n small = absurd (omega arith)
board-parts (t ∷ b1 ∷ b2 ∷ b3 ∷ b4 ∷ b5 ∷ bs) n small = absurd (omega arith)
board-parts (t ∷ b1 ∷ b2 ∷ b3 ∷ b4 ∷ []) n small =
    let s1 : b1 < 256 = small.1.0 in
    let s2 : b2 < 256 = small.1.1.0 in
    let s3 : b3 < 256 = small.1.1.1.0 in
    let s4 : b4 < 256 = small.1.1.1.1.0 in
    let window : number_in (b1 ∷ b2 ∷ []) ≡ number_in (t ∷ b1 ∷ []) % 256 * 256 + number_in (b2 ∷ b3 ∷ b4 ∷ []) / 65536 % 256 = omega arith in
    let first : number_in (b3 ∷ []) ≡ number_in (b2 ∷ b3 ∷ b4 ∷ []) / 256 % 256 = omega arith in
    let second : number_in (b4 ∷ []) ≡ number_in (b2 ∷ b3 ∷ b4 ∷ []) % 256 = omega arith in
    λ i. record { window = window i; first = first i; second = second i }
