-- Rows of which one is replaced: a sum over them, and a fact of each. And the rows that can be moved, counted. Assumes nothing.
use mathlib.Core.Path.{◌≡◌, refl, ap}
use mathlib.Core.Bool.{Bool, true, false, cond}
use mathlib.Core.List.{List, [], ◌∷◌}
use Prim.Native.Nat.{ℕ, zero, suc, ◌+◌, ◌≤◌, ◌<◌}
use native.Mathlib.Omega.{arith}
use borrow.Author.Tests.{eqb-true, eqb-false}
use lib.Dec.{eqb}
use lib.ListN.{length, get_or, set}
use lib.Seq.{get_or-set_same, get_or-set_other}
use Rattle.rows.specs.Lists.{sum_of, count_of}
use Rattle.split.specs.Columns.{no_row}
use Rattle.split.specs.Rows.{Row}

pub sum-set : (f : Row → ℕ) (rs : List Row) (i : ℕ) (y : Row) → i < length rs
    → sum_of f (set rs i y) + f (get_or rs i no_row) ≡ sum_of f rs + f y
sum-set f [] i y h = absurd (omega arith)
sum-set f (r ∷ rs) zero y h = omega arith
sum-set f (r ∷ rs) (suc i) y h = omega (arith, sum-set f rs i y (omega arith))

-- A fact of each row and its number, where one row is replaced.
pub set-each : (P : ℕ → Row → Type 0) (rs : List Row) (i : ℕ) (y : Row) → i < length rs
    → ((m : ℕ) → m < length rs → P m (get_or rs m no_row)) → P i y → (m : ℕ) → m < length rs → P m (get_or (set rs i y) m no_row)
set-each P rs i y within each new m h = go (eqb m i) refl
  where
    go : (t : Bool) → eqb m i ≡ t → P m (get_or (set rs i y) m no_row)
    go true e = rw (eqb-true m i e, get_or-set_same rs i y no_row within) new
    go false e = rw (get_or-set_other rs i m y no_row (eqb-false m i e)) (each m h)

-- ---- the rows that can be moved
abbrev pub waiting : List Row → ℕ
waiting rs = count_of (λ (r : Row). r.movable) rs

pub one-most : (t : Bool) → cond t 1 0 ≤ 1
one-most true = omega arith
one-most false = omega arith

pub waiting-most : (rs : List Row) → waiting rs ≤ length rs
waiting-most [] = omega arith
waiting-most (r ∷ rs) = omega (arith, one-most r.movable, waiting-most rs)

pub waiting_none : (rs : List Row) → waiting rs ≡ 0 → (i : ℕ) → i < length rs → (get_or rs i no_row).movable ≡ false
waiting_none [] h i l = absurd (omega arith)
waiting_none (r ∷ rs) h zero l = go r.movable refl
  where
    go : (t : Bool) → r.movable ≡ t → t ≡ false
    go true e = absurd (omega (arith, ap (λ (t : Bool). cond {A = ℕ} t 1 0) e))
    go false e = refl
waiting_none (r ∷ rs) h (suc i) l = waiting_none rs (omega arith) i (omega arith)

pub none-waiting : (rs : List Row) → ((i : ℕ) → i < length rs → (get_or rs i no_row).movable ≡ false) → waiting rs ≡ 0
none-waiting [] h = refl
none-waiting (r ∷ rs) h = rw (h 0 (omega arith)) (omega (arith, none-waiting rs (λ i l. h (suc i) (omega arith))))
