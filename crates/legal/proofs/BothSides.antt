-- Both sides of the lines of a legal set, as model/proofs/BothSides.antt has them for the model: an example exactly at each limit, and one that
-- is wrong by one there and nowhere else. The lines that are held, in this order:
--   LegalJob    a cost of 0 and of 1, of 1,000,000 and one more, of W and one more, for each kind; one of two costs above W, and both
--   Lawful      a window of 0, 1, 65,535 and 65,536, cores 0, 1, 8 and 9 of each kind, 64 and 65 jobs, a job that is not legal
--   legal_of    the same limits by the checks, each with its number and its place
-- That LegalJob and Lawful say exactly what the checks let pass is in Lawful.antt. Assumes nothing.
use mathlib.Core.List.{[], ◌∷◌, map}
use mathlib.Core.Path.{◌≡◌, refl}
use Prim.Native.Nat.{ℕ}
use native.Mathlib.Omega.{arith}
use Rattle.rows.specs.Lists.{lowest}
use Rattle.model.specs.Refusal.{given, refused}
use Rattle.model.specs.declared.Board.{Board}
use Rattle.model.specs.declared.Job.{Job}
use Rattle.model.proofs.BothSides.{B, F, S}
use Rattle.legal.specs.Lawful.{LegalJob, Lawful}
use Rattle.legal.specs.Legal.{on_board, legal_of}

-- ==== LegalJob: in a window of 10 and, for the greatest cost, in one that is longer than it
pub first-least : LegalJob 10 (F 1)
first-least = omega arith

pub first-nothing-not : LegalJob 10 (F 0) → ⊥
first-nothing-not l = omega arith

pub first-window : LegalJob 10 (F 10)
first-window = omega arith

pub first-long-not : LegalJob 10 (F 11) → ⊥
first-long-not l = omega arith

pub first-most : LegalJob 2000000 (F 1000000)
first-most = omega arith

pub first-more-not : LegalJob 2000000 (F 1000001) → ⊥
first-more-not l = omega arith

pub second-least : LegalJob 10 (S 1)
second-least = omega arith

pub second-nothing-not : LegalJob 10 (S 0) → ⊥
second-nothing-not l = omega arith

pub second-window : LegalJob 10 (S 10)
second-window = omega arith

pub second-long-not : LegalJob 10 (S 11) → ⊥
second-long-not l = omega arith

pub second-most : LegalJob 2000000 (S 1000000)
second-most = omega arith

pub second-more-not : LegalJob 2000000 (S 1000001) → ⊥
second-more-not l = omega arith

-- On both kinds each cost is in range, and one of them may be above W.
pub both-least : LegalJob 10 (B 1 1)
both-least = omega arith

pub both-nothing-not : (LegalJob 10 (B 0 1) → ⊥) × (LegalJob 10 (B 1 0) → ⊥)
both-nothing-not = (λ l. omega arith, λ l. omega arith)

pub both-window : LegalJob 10 (B 10 1000000) × LegalJob 10 (B 1000000 10)
both-window = omega arith

pub both-long-not : (LegalJob 10 (B 11 1000000) → ⊥) × (LegalJob 10 (B 1000000 11) → ⊥)
both-long-not = (λ l. omega arith, λ l. omega arith)

pub both-more-not : (LegalJob 10 (B 10 1000001) → ⊥) × (LegalJob 10 (B 1000001 10) → ⊥)
both-more-not = (λ l. omega arith, λ l. omega arith)

-- ==== Lawful
abbrev sized : (window first second : ℕ) → Board
sized window first second = record { window = window; first = first; second = second }

pub lawful-least : Lawful (sized 1 1 1) 0 []
lawful-least = search arith

pub lawful-most : Lawful (sized 65535 8 8) 64 (F 65535 ∷ S 65535 ∷ [])
lawful-most = search arith

pub lawful-window-not : (Lawful (sized 0 1 1) 0 [] → ⊥) × (Lawful (sized 65536 1 1) 0 [] → ⊥)
lawful-window-not = (λ l. omega arith, λ l. omega arith)

pub lawful-first-not : (Lawful (sized 1 0 1) 0 [] → ⊥) × (Lawful (sized 1 9 1) 0 [] → ⊥)
lawful-first-not = (λ l. omega arith, λ l. omega arith)

pub lawful-second-not : (Lawful (sized 1 1 0) 0 [] → ⊥) × (Lawful (sized 1 1 9) 0 [] → ⊥)
lawful-second-not = (λ l. omega arith, λ l. omega arith)

pub lawful-many-not : Lawful (sized 1 1 1) 65 [] → ⊥
lawful-many-not l = omega arith

-- The window is the board's, and the last job is looked at.
pub lawful-last-not : Lawful (sized 10 1 1) 2 (F 10 ∷ S 11 ∷ []) → ⊥
lawful-last-not l = omega arith

-- ==== The checks: each at its limit, and one past it on either side
pub checks-window : map (λ (w : ℕ). legal_of (sized w 1 1) 0 []) (0 ∷ 1 ∷ 65535 ∷ 65536 ∷ [])
    ≡ refused 1 0 ∷ given tt ∷ given tt ∷ refused 1 0 ∷ []
unfolding lowest legal_of on_board
checks-window = refl

pub checks-first : map (λ (m : ℕ). legal_of (sized 1 m 1) 0 []) (0 ∷ 1 ∷ 8 ∷ 9 ∷ []) ≡ refused 2 0 ∷ given tt ∷ given tt ∷ refused 2 0 ∷ []
unfolding lowest legal_of on_board
checks-first = refl

pub checks-second : map (λ (m : ℕ). legal_of (sized 1 1 m) 0 []) (0 ∷ 1 ∷ 8 ∷ 9 ∷ []) ≡ refused 2 0 ∷ given tt ∷ given tt ∷ refused 2 0 ∷ []
unfolding lowest legal_of on_board
checks-second = refl

pub checks-jobs : map (λ (n : ℕ). legal_of (sized 1 1 1) n []) (0 ∷ 64 ∷ 65 ∷ []) ≡ given tt ∷ given tt ∷ refused 3 64 ∷ []
unfolding lowest legal_of on_board
checks-jobs = refl

-- Behind a job that is legal, so that the place is 1.
pub checks-cost : map (λ (j : Job). legal_of (sized 10 1 1) 2 (F 1 ∷ j ∷ []))
    (F 0 ∷ F 10 ∷ S 1000001 ∷ B 1 0 ∷ B 10 1000000 ∷ B 1000001 10 ∷ [])
    ≡ refused 4 1 ∷ given tt ∷ refused 4 1 ∷ refused 4 1 ∷ given tt ∷ refused 4 1 ∷ []
unfolding lowest legal_of on_board
checks-cost = refl

pub checks-long : map (λ (j : Job). legal_of (sized 10 1 1) 2 (F 1 ∷ j ∷ [])) (F 11 ∷ S 10 ∷ S 11 ∷ B 10 11 ∷ B 11 10 ∷ B 11 11 ∷ [])
    ≡ refused 5 1 ∷ given tt ∷ refused 5 1 ∷ given tt ∷ given tt ∷ refused 5 1 ∷ []
unfolding lowest legal_of on_board
checks-long = refl
