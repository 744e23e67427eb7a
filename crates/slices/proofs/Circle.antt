-- The moves of a job with one, two or three slices, by the order of their starts. One idea: on the circle of the window each slice comes after
-- another one, and once the starts are ordered, which one that is can be computed. Assumes nothing.
use mathlib.Core.Path.{◌≡◌, refl}
use mathlib.Core.Bool.{true}
use mathlib.Core.List.{[], ◌∷◌}
use Prim.Native.Nat.{ℕ, ◌+◌, ◌<◌}
use native.Mathlib.Omega.{arith}
use Rattle.std.proofs.lemmas.Bool.Decides.{nat_tests}
use Rattle.model.specs.Board.{same_kind}
use Rattle.model.specs.declared.Kind.{Kind}
use Rattle.model.specs.declared.Kind.TheVariants.{First, Second}
use Rattle.model.specs.declared.Slice.{Slice}
use Rattle.slices.specs.Moves.{moves, moves_of}

same_kind-self : (k : Kind) → same_kind k k ≡ true
same_kind-self First = refl
same_kind-self Second = refl

module _ (j : ℕ) where
  abbrev slice : Kind → (core start length : ℕ) → Slice
  slice k core start length = record { job = j; kind = k; core = core; start = start; length = length }

  -- One comes after itself.
  pub one-moves : (k : Kind) (c s l : ℕ) → moves_of (slice k c s l ∷ []) j ≡ moves 0 0
  one-moves k c s l = grind (arith, nat_tests, same_kind-self)

  -- Two at different ticks: each comes after the other.
  pub kinds-moves : (c d s t l m : ℕ) → (s ≡ t → ⊥) → moves_of (slice First c s l ∷ slice Second d t m ∷ []) j ≡ moves 2 0
  kinds-moves c d s t l m differ = grind (arith, nat_tests)

  pub cores-moves : (k : Kind) (c s t l m : ℕ) → (s ≡ t → ⊥) → moves_of (slice k c s l ∷ slice k (c + 1) t m ∷ []) j ≡ moves 0 2
  cores-moves k c s t l m differ = grind (arith, nat_tests, same_kind-self)

  -- Three: the run on one kind is cut, and the one on the other kind stands between its ends.
  pub first-cut-moves : (c d s t u l m n : ℕ) → t < u → u < s
      → moves_of (slice First c s l ∷ slice First (c + 1) t m ∷ slice Second d u n ∷ []) j ≡ moves 2 1
  first-cut-moves c d s t u l m n tu us = grind (arith, nat_tests)

  pub second-cut-moves : (c d s t u l m n : ℕ) → t < s → s < u
      → moves_of (slice First c s l ∷ slice Second d t m ∷ slice Second (d + 1) u n ∷ []) j ≡ moves 2 1
  second-cut-moves c d s t u l m n ts su = grind (arith, nat_tests)
