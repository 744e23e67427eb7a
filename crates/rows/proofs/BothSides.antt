-- What each definition of this crate says, by an example where it holds and one that is wrong by one. Assumes nothing.
use mathlib.Core.List.{[], ◌∷◌}
use mathlib.Core.Path.{◌≡◌, refl}
use Prim.Native.Nat.{ℕ, ◌+◌, ◌≤◌, ◌<◌}
use native.Mathlib.Omega.{arith}
use lib.Dec.{ltb}
use Rattle.rows.specs.Lists.{All, Pairs, sum_of, count_of, lowest, front}
use Rattle.rows.specs.Upto.{upto, at}

abbrev small : ℕ → Type 0
small n = n ≤ 4

pub all_small : All small (3 ∷ 4 ∷ [])
all_small = omega arith

pub all-last-not : All small (3 ∷ 5 ∷ []) → ⊥
all-last-not h = omega arith

-- The earlier of two comes first, and the first is held against the last.
pub pairs-rising : Pairs ◌<◌ (1 ∷ 2 ∷ 4 ∷ [])
pairs-rising = omega arith

pub pairs-first-last-not : Pairs ◌<◌ (2 ∷ 3 ∷ 2 ∷ []) → ⊥
pairs-first-last-not h = omega arith

pub sum-of : sum_of (λ (n : ℕ). n + 1) (3 ∷ 5 ∷ []) ≡ 10
sum-of = refl

pub count-of : count_of (ltb 4) (3 ∷ 5 ∷ 4 ∷ 6 ∷ []) ≡ 2
count-of = refl

-- The first element has number 0, the first of two is taken, and where there is none the count of all stands.
pub lowest-first : lowest (ltb 4) (5 ∷ 3 ∷ []) ≡ 0
unfolding lowest
lowest-first = refl

pub lowest-second : lowest (ltb 4) (4 ∷ 5 ∷ 6 ∷ []) ≡ 1
unfolding lowest
lowest-second = refl

pub lowest-none : lowest (ltb 4) (3 ∷ 4 ∷ []) ≡ 2
unfolding lowest
lowest-none = refl

pub front-one : front {A = ℕ} (1 ∷ []) (7 ∷ 8 ∷ []) ≡ 1 ∷ 8 ∷ []
front-one = refl

pub upto-three : upto 3 (λ i. i + 5) ≡ 5 ∷ 6 ∷ 7 ∷ []
upto-three = refl

pub at_last : at (7 ∷ 8 ∷ []) 1 ≡ 8
at_last = refl

pub at-past : at (7 ∷ 8 ∷ []) 2 ≡ 0
at-past = refl
