-- Internal: no public promise cites this. Elements that are taken with their numbers.
--   each        a function of each element of a list and its number
--   sum_each    the sum of a number of each element and its number
--   sum_below   the sum of a number of each number below n
--   LowestIn    the number of an element of which a fact holds that holds of none before it; d is what stands past the list's end
-- Assumes nothing.
use Rattle.std.specs.Prelude.{List, [], ◌∷◌, ℕ, zero, suc, ◌+◌, ◌<◌, length, get_or}
use Rattle.rows.specs.Lists.{sum_of}

abbrev pub each : {A B : Type 0} → (ℕ → A → B) → List A → List B
each f [] = []
each f (x ∷ xs) = f 0 x ∷ each (λ i. f (suc i)) xs

abbrev pub sum_each : {A : Type 0} → (ℕ → A → ℕ) → List A → ℕ
sum_each f xs = sum_of (λ (n : ℕ). n) (each f xs)

abbrev pub sum_below : ℕ → (ℕ → ℕ) → ℕ
sum_below zero f = 0
sum_below (suc n) f = sum_below n f + f n

pub record LowestIn {A : Type 0} (d : A) (Bad : A → Type 0) (xs : List A) (n : ℕ) : Type 0 where
  pub there : n < length xs
  pub bad : Bad (get_or xs n d)
  pub lower : (i : ℕ) → i < n → Bad (get_or xs i d) → ⊥
