-- A test that is computed, and the fact that it tells: the test is true where the fact holds, and false where it does not.
--   Tells                  a test tells a fact
--   less-tells, most-tells, equal-tells   a comparison tells which number is less, is at most another, is another
--   or-tells, and-tells    tests that are joined tell facts that are joined
--   not-tells              the opposite of a test tells the opposite of its fact
--   alike-tells            a test that tells a fact tells every fact that holds exactly where it does
--   told, untold           what the test is, from the fact
--   fact, no-fact          the fact, from what the test is
--   by-test                what is said of both arms of a choice is said of the choice
-- Assumes nothing.
use mathlib.Core.Path.{◌≡◌, refl}
use mathlib.Core.Bool.{Bool, true, false, cond, not, ◌&&◌, ◌||◌}
use mathlib.Core.Logic.{◌⊎◌, inl, inr, ⊎_elim}
use Prim.Native.Nat.{ℕ, ◌≤◌, ◌<◌}
use native.Mathlib.Omega.{arith}
use borrow.Author.Tests.{ltb-true, ltb-false, leb-true, leb-false, eqb-true, eqb-false}
use lib.Dec.{eqb, leb, ltb}

pub data Tells (P : Type 0) : Bool → Type 0 where
  holds : P → Tells P true
  fails : (P → ⊥) → Tells P false

pub less-tells : (a b : ℕ) → Tells (a < b) (ltb a b)
less-tells a b = go (ltb a b) refl
  where
    go : (t : Bool) → ltb a b ≡ t → Tells (a < b) t
    go true e = holds (ltb-true a b e)
    go false e = fails (λ l. omega (arith, ltb-false a b e))

pub most-tells : (a b : ℕ) → Tells (a ≤ b) (leb a b)
most-tells a b = go (leb a b) refl
  where
    go : (t : Bool) → leb a b ≡ t → Tells (a ≤ b) t
    go true e = holds (leb-true a b e)
    go false e = fails (λ l. omega (arith, leb-false a b e))

pub equal-tells : (a b : ℕ) → Tells (a ≡ b) (eqb a b)
equal-tells a b = go (eqb a b) refl
  where
    go : (t : Bool) → eqb a b ≡ t → Tells (a ≡ b) t
    go true e = holds (eqb-true a b e)
    go false e = fails (eqb-false a b e)

pub or-tells : {P Q : Type 0} {s t : Bool} → Tells P s → Tells Q t → Tells (P ⊎ Q) (s || t)
or-tells (holds p) q = holds (inl p)
or-tells (fails p) (holds q) = holds (inr q)
or-tells (fails p) (fails q) = fails (⊎_elim p q)

pub and-tells : {P Q : Type 0} {s t : Bool} → Tells P s → Tells Q t → Tells (P × Q) (s && t)
and-tells (holds p) (holds q) = holds (p, q)
and-tells (holds p) (fails q) = fails (λ x. q x.1)
and-tells (fails p) q = fails (λ x. p x.0)

pub not-tells : {P : Type 0} {t : Bool} → Tells P t → Tells (P → ⊥) (not t)
not-tells (holds p) = fails (λ never. never p)
not-tells (fails never) = holds never

pub alike-tells : {P Q : Type 0} {t : Bool} → (P → Q) → (Q → P) → Tells P t → Tells Q t
alike-tells there back (holds p) = holds (there p)
alike-tells there back (fails never) = fails (λ q. never (back q))

pub told : {P : Type 0} {t : Bool} → Tells P t → P → t ≡ true
told (holds p) q = refl
told (fails never) q = absurd (never q)

pub untold : {P : Type 0} {t : Bool} → Tells P t → (P → ⊥) → t ≡ false
untold (holds p) never = absurd (never p)
untold (fails p) never = refl

pub fact : {P : Type 0} {t : Bool} → Tells P t → t ≡ true → P
fact {P} tells e = go (rw e at tells)
  where
    go : Tells P true → P
    go (holds p) = p

pub no-fact : {P : Type 0} {t : Bool} → Tells P t → t ≡ false → P → ⊥
no-fact {P} tells e = go (rw e at tells)
  where
    go : Tells P false → P → ⊥
    go (fails never) = never

pub by-test : {A P : Type 0} {t : Bool} (Says : A → Type 0) (x y : A) → Tells P t → (P → Says x) → ((P → ⊥) → Says y) → Says (cond t x y)
by-test Says x y (holds p) stops goes = stops p
by-test Says x y (fails p) stops goes = goes p
