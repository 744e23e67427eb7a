-- The laws of lowest: the number of the first element that a test holds of, and the count of all where there is none.
--   lowest-map             a test that answers the same of what elements are mapped to has the same lowest there
--   none-lowest, lowest-none   the test holds of no element exactly where the lowest is the count
--   position-found, position-none   what `position` of the library finds is the lowest, and where it finds none the lowest is the count
--   lowest-is, lowest-of   the lowest by the fact that the test tells, there and back
--   some-tells             whether there is one before the end tells that the fact holds of one of them
--   SoughtTo               a walk that looks for the lowest has come to place i, and found none before it
--   sought-here, sought-on, sought-all   it ends at i, goes on, and ends with none found
-- Assumes nothing.
use mathlib.Core.Path.{◌≡◌, refl, sym}
use mathlib.Core.Bool.{Bool, true, false, cond}
use mathlib.Core.List.{List, [], ◌∷◌, map}
use Prim.Native.Nat.{ℕ, zero, suc, ◌+◌, ◌≤◌, ◌<◌}
use native.Mathlib.Omega.{arith}
use lib.Dec.{ltb}
use lib.ListN.{length, get_or, drop}
use Rattle.std.proofs.lemmas.Bool.Decides.{nat_tests}
use Rattle.std.specs.Prelude.{Option, Some, None, position}
use Rattle.std.specs.List.{position_or_len}
use Rattle.std.proofs.lemmas.List.Recursion.{is_position_or_len}
use Rattle.rows.specs.Lists.{All, lowest}
use Rattle.rows.specs.Numbered.{LowestIn}
use Rattle.rows.specs.Upto.{upto}
use Rattle.rows.proofs.Lists.{all-at}
use Rattle.rows.proofs.Tells.{Tells, holds, fails, less-tells, told, untold, no-fact, by-test}
use Rattle.rows.proofs.Never.{never}
use Rattle.rows.proofs.Upto.{upto-length, upto-at, upto_left, upto-none}

module _ {A : Type 0} (test : A → Bool) where
  pub lowest-map : (f : A → A) → ((x : A) → test (f x) ≡ test x) → (xs : List A) → lowest test (map f xs) ≡ lowest test xs
  unfolding lowest
  lowest-map f same [] = refl
  lowest-map f same (x ∷ xs) = rw (same x, lowest-map f same xs)

  pub none-lowest : (xs : List A) → All (λ (x : A). test x ≡ false) xs → lowest test xs ≡ length xs
  unfolding lowest
  none-lowest [] none = refl
  none-lowest (x ∷ xs) none = let rest = none-lowest xs none.1 in grind arith

  pub lowest-none : (xs : List A) → length xs ≤ lowest test xs → All (λ (x : A). test x ≡ false) xs
  unfolding lowest
  lowest-none [] past = tt
  lowest-none (x ∷ xs) past =
      let fails : test x ≡ false = grind (arith, nat_tests) in
      let rest = rw fails at past in
      (fails, lowest-none xs (omega arith))

-- ---- by what `position` of the library finds
module _ {A : Type 0} (test : A → Bool) (xs : List A) where
  is_lowest : position_or_len test xs ≡ lowest test xs
  unfolding lowest
  is_lowest = sym (is_position_or_len (lowest test) test refl (λ x ys. refl) xs)

  position-tells : (P : Option ℕ → Type 0) → (lowest test xs < length xs → P (Some (lowest test xs))) → (length xs ≤ lowest test xs → P None)
      → P (position test xs)
  position-tells P finds ends = rw is_lowest (by-test P _ _ (less-tells (lowest test xs) (length xs)) finds (λ none. ends (omega arith)))

  pub position-found : (i : ℕ) → Some i ≡ position test xs → (i ≡ lowest test xs) × (i < length xs)
  position-found i = position-tells (λ p. Some i ≡ p → (i ≡ lowest test xs) × (i < length xs)) (λ there e. let same : i ≡ lowest test xs = cc in (same, omega arith)) (λ none e. never (cc))

  pub position-none : None ≡ position test xs → length xs ≤ lowest test xs
  position-none = position-tells (λ p. None ≡ p → length xs ≤ lowest test xs) (λ there e. never (cc)) (λ none e. none)

-- ---- by the fact that the test tells
module _ {A : Type 0} (d : A) (test : A → Bool) (Bad : A → Type 0) (tells : (x : A) → Tells (Bad x) (test x)) where
  pub lowest-is : (xs : List A) (n : ℕ) → LowestIn d Bad xs n → n ≡ lowest test xs
  unfolding lowest
  lowest-is [] n low = absurd (omega (arith, low.there))
  lowest-is (x ∷ xs) zero low = rw (told (tells x) low.bad)
  lowest-is (x ∷ xs) (suc n) low =
      rw (untold (tells x) (low.lower 0 (omega arith)))
      (omega (arith, lowest-is xs n (record { there = omega (arith, low.there); bad = low.bad; lower = λ i l. low.lower (suc i) (omega arith) })))

  -- An element in front of a list: the lowest is that one, or the lowest of the list.
  in-front : (x : A) (xs : List A) (low : ℕ) {t : Bool} → Tells (Bad x) t → (low < length xs → LowestIn d Bad xs low)
      → cond t 0 (1 + low) < length (x ∷ xs) → LowestIn d Bad (x ∷ xs) (cond t 0 (1 + low))
  in-front x xs low (holds bad) rest l = record { there = l; bad = bad; lower = λ i m. absurd (omega arith) }
  in-front x xs low (fails good) rest l =
      let of-rest = rest (omega arith) in
      let next : 1 + low ≡ suc low = omega arith in
      record { there = l; bad = rw next of-rest.bad; lower = lower of-rest.lower }
    where
      lower : ((i : ℕ) → i < low → Bad (get_or xs i d) → ⊥) → (i : ℕ) → i < 1 + low → Bad (get_or (x ∷ xs) i d) → ⊥
      lower below zero m = good
      lower below (suc i) m = below i (omega arith)

  found : (xs : List A) → lowest test xs < length xs → LowestIn d Bad xs (lowest test xs)
  unfolding lowest
  found [] l = absurd (omega arith)
  found (x ∷ xs) l = in-front x xs (lowest test xs) (tells x) (found xs) l

  pub lowest-of : (xs : List A) (n : ℕ) → n ≡ lowest test xs → n < length xs → LowestIn d Bad xs n
  lowest-of xs n is there = rw is (found xs (rw is at there))

module _ {A : Type 0} (test : A → Bool) (Bad : A → Type 0) (tells : (x : A) → Tells (Bad x) (test x)) (n : ℕ) (f : ℕ → A) where
  pub some-tells : Tells ((k : ℕ) × (k < n) × Bad (f k)) (ltb (lowest test (upto n f)) n)
  some-tells = go (less-tells (lowest test (upto n f)) n)
    where
      go : {t : Bool} → Tells (lowest test (upto n f) < n) t → Tells ((k : ℕ) × (k < n) × Bad (f k)) t
      go (holds l) =
          let low = lowest-of (f 0) test Bad tells (upto n f) _ refl (rw (upto-length n f) l) in
          holds (lowest test (upto n f), l, rw (upto-at n f (f 0) _ l) at low.bad)
      go (fails past) =
          let none = lowest-none test (upto n f) (omega (arith, upto-length n f)) in
          fails (λ some. no-fact (tells (f some.0))
          (rw (upto-at n f (f 0) some.0 some.1) at
          (all-at (λ (x : A). test x ≡ false) (f 0) (upto n f) some.0 (rw (upto-length n f) some.1) none))
          some.2)

-- ---- a walk that looks for it, over the list of a function's values
module _ {A : Type 0} (test : A → Bool) (n : ℕ) (f : ℕ → A) where
  abbrev pub SoughtTo : ℕ → Type 0
  SoughtTo i = i + lowest test (drop i (upto n f)) ≡ lowest test (upto n f)

  module _ (i : ℕ) (sought : SoughtTo i) where
    pub sought-here : i < n → test (f i) ≡ true → i ≡ lowest test (upto n f)
    unfolding lowest
    sought-here l e = grind (arith, upto_left n f i l)

    pub sought-on : i < n → test (f i) ≡ false → SoughtTo (i + 1)
    unfolding lowest
    sought-on l e = let next = rw (upto_left n f i l, e) at sought in omega arith

    pub sought-all : i ≡ n → i ≡ lowest test (upto n f)
    unfolding lowest
    sought-all end = let none = rw (end, upto-none n f) at sought in omega arith
