-- The laws of the list of a function's values (upto), and of a column that is filled from its start. Assumes nothing.
use mathlib.Core.Path.{◌≡◌, refl, sym, ap, ◌∙◌}
use mathlib.Core.List.{List, [], ◌∷◌, ◌++◌, map}
use Prim.Native.Nat.{ℕ, zero, suc, ◌+◌, ◌≤◌, ◌<◌}
use native.Mathlib.Nat.{le_of_suc-le-suc, not-suc-le-zero}
use native.Mathlib.Numerals.{add-one}
use native.Mathlib.Omega.{arith}
use lib.ListN.{length, get_or, set, take, drop, length-drop, drop_of_length-le}
use lib.Seq.{set_at, drop-cons, append_snoc, get_or-drop}
use Rattle.std.specs.List.{zip}
use Rattle.rows.specs.Lists.{All, Pairs, sum_of}
use Rattle.rows.specs.Upto.{upto, at}
use Rattle.rows.proofs.Lists.{sum-append}

module _ {A : Type 0} where
  pub upto-length : (n : ℕ) (f : ℕ → A) → length (upto n f) ≡ n
  upto-length zero f = refl
  upto-length (suc n) f = ap suc (upto-length n (λ i. f (suc i)))

  pub upto-at : (n : ℕ) (f : ℕ → A) (d : A) (i : ℕ) → i < n → get_or (upto n f) i d ≡ f i
  upto-at zero f d i h = absurd (not-suc-le-zero h)
  upto-at (suc n) f d zero h = refl
  upto-at (suc n) f d (suc i) h = upto-at n (λ k. f (suc k)) d i (le_of_suc-le-suc h)

  pub upto_all : (P : A → Type 0) (n : ℕ) (f : ℕ → A) → ((i : ℕ) → i < n → P (f i)) → All P (upto n f)
  upto_all P zero f h = tt
  upto_all P (suc n) f h = (h 0 (omega arith), upto_all P n (λ i. f (suc i)) (λ i l. h (suc i) (omega arith)))

  pub upto-pairs : (R : A → A → Type 0) (n : ℕ) (f : ℕ → A) → ((i k : ℕ) → i < k → k < n → R (f i) (f k)) → Pairs R (upto n f)
  upto-pairs R zero f h = tt
  upto-pairs R (suc n) f h = (
    upto_all (R (f 0)) n (λ k. f (suc k)) (λ k l. h 0 (suc k) (omega arith) (omega arith)),
    upto-pairs R n (λ i. f (suc i)) (λ i k l m. h (suc i) (suc k) (omega arith) (omega arith)),
  )

  pub upto-same : (n : ℕ) (f g : ℕ → A) → ((i : ℕ) → i < n → f i ≡ g i) → upto n f ≡ upto n g
  upto-same zero f g h = refl
  upto-same (suc n) f g h = rw (h 0 (omega arith), upto-same n (λ i. f (suc i)) (λ i. g (suc i)) (λ i l. h (suc i) (omega arith)))

  pub upto-more : (n : ℕ) (f : ℕ → A) → upto (n + 1) f ≡ upto n f ++ (f n ∷ [])
  upto-more n f = rw add-one (go n f)
    where
      go : (m : ℕ) (g : ℕ → A) → upto (suc m) g ≡ upto m g ++ (g m ∷ [])
      go zero g = refl
      go (suc m) g = ap (λ (t : List A). g 0 ∷ t) (go m (λ i. g (suc i)))

  pub upto-sum : (g : A → ℕ) (n : ℕ) (f : ℕ → A) → sum_of g (upto (n + 1) f) ≡ sum_of g (upto n f) + g (f n)
  upto-sum g n f = rw upto-more (omega (arith, sum-append g (upto n f) (f n ∷ [])))

  -- A list that is set at i.
  pub upto-set : (n : ℕ) (f g : ℕ → A) (i : ℕ) (v : A) → i < n → g i ≡ v → ((k : ℕ) → (k ≡ i → ⊥) → g k ≡ f k) → upto n g ≡ set (upto n f) i v
  upto-set zero f g i v l e o = absurd (not-suc-le-zero l)
  upto-set (suc n) f g zero v l e o = rw (e, upto-same n (λ k. g (suc k)) (λ k. f (suc k)) (λ k _. o (suc k) (λ z. omega arith)))
  upto-set (suc n) f g (suc i) v l e o =
      rw (o 0 (λ z. omega arith), upto-set n (λ k. f (suc k)) (λ k. g (suc k)) i v (le_of_suc-le-suc l) e (λ k ne. o (suc k) (λ z. ne (omega arith))))

  -- A column that is filled from its start, one more.
  pub upto-fill : (f : ℕ → A) (l : List A) (i : ℕ) → i < length l → set (upto i f ++ drop i l) i (f i) ≡ upto (i + 1) f ++ drop (i + 1) l
  upto-fill f l i h =
      rw (drop-cons l i (f i) h, set_at (upto i f) (get_or l i (f i)) (drop (suc i) l) (f i) i (upto-length i f), upto-more i f, add-one)
      (sym (append_snoc (upto i f) (f i) (drop (suc i) l)))

pub upto-map : {A B : Type 0} (g : A → B) (n : ℕ) (f : ℕ → A) → map g (upto n f) ≡ upto n (λ i. g (f i))
upto-map g zero f = refl
upto-map {B = B} g (suc n) f = ap (λ (t : List B). g (f 0) ∷ t) (upto-map g n (λ i. f (suc i)))

pub upto-front : (n : ℕ) (f : ℕ → ℕ) (l : List ℕ) (i : ℕ) → i < n → at (upto n f ++ l) i ≡ f i
upto-front zero f l i h = absurd (not-suc-le-zero h)
upto-front (suc n) f l zero h = refl
upto-front (suc n) f l (suc i) h = upto-front n (λ k. f (suc k)) l i (le_of_suc-le-suc h)

-- The first numbers of a column, by their places.
pub upto_take : (n : ℕ) (l : List ℕ) → n ≤ length l → upto n (λ i. at l i) ≡ take n l
upto_take zero l h = refl
upto_take (suc n) [] h = absurd (not-suc-le-zero h)
upto_take (suc n) (x ∷ l) h = ap (λ (t : List ℕ). x ∷ t) (upto_take n l (le_of_suc-le-suc h))

-- Two columns by their places are the columns side by side.
pub upto-zip : {A : Type 0} (g : ℕ → ℕ → A) (n : ℕ) (xs ys : List ℕ) → n ≤ length xs → n ≤ length ys
    → map (λ (p : ℕ × ℕ). g p.0 p.1) (take n (zip xs ys)) ≡ upto n (λ i. g (at xs i) (at ys i))
upto-zip g zero xs ys h k = refl
upto-zip g (suc n) [] ys h k = absurd (not-suc-le-zero h)
upto-zip g (suc n) (x ∷ xs) [] h k = absurd (not-suc-le-zero k)
upto-zip {A} g (suc n) (x ∷ xs) (y ∷ ys) h k = ap (λ (t : List A). g x y ∷ t) (upto-zip g n xs ys (le_of_suc-le-suc h) (le_of_suc-le-suc k))

-- A part of a column, by its places.
pub upto-part : (n k : ℕ) (l : List ℕ) → k + n ≤ length l → take n (drop k l) ≡ upto n (λ i. at l (k + i))
upto-part n k l fits = sym (upto_take n (drop k l) (omega (arith, length-drop k l))) ∙ upto-same n _ _ (λ i _. get_or-drop k l i 0)

-- A walk over the list: what is left at place i, and that nothing is left at n.
module _ {A : Type 0} (n : ℕ) (f : ℕ → A) where
  pub upto_left : (i : ℕ) → i < n → drop i (upto n f) ≡ f i ∷ drop (i + 1) (upto n f)
  upto_left i h =
      rw add-one
      (drop-cons (upto n f) i (f i) (rw (upto-length n f) h) ∙ ap (λ (x : A). x ∷ drop (suc i) (upto n f)) (upto-at n f (f i) i h))

  pub upto-none : drop n (upto n f) ≡ []
  upto-none = drop_of_length-le (upto n f) {i = n} (omega (arith, upto-length n f))
