-- The row to be moved next: it is a movable row of the list, no movable row has a greater near/far, and none of lower number an equal one.
-- The scan carries the row found so far, so the law says what a scan makes of it (`Scanned`). Assumes nothing.
use mathlib.Core.Path.{◌≡◌, refl, sym, ◌∙◌, ap}
use mathlib.Core.Bool.{Bool, true, false, false≢true, cond}
use mathlib.Core.List.{List, [], ◌∷◌}
use Prim.Native.Nat.{ℕ, zero, suc, ◌+◌, ◌*◌, ◌≤◌, ◌<◌}
use native.Mathlib.Nat.{mul-le-mul_left, lt_of_mul-lt-mul_left, le_of_suc-le-suc, not-suc-le-zero}
use native.Mathlib.Omega.{arith}
use borrow.Author.Tests.{ltb-true, ltb-false}
use lib.ListN.{length, get_or}
use Rattle.split.specs.Steps.{ahead, better, next_from, next_of}
use Rattle.split.specs.Columns.{no_row, Ready}
use Rattle.split.specs.Rows.{Row, Next, Nobody, At}

-- The ratio of s is at most that of r, or below it.
abbrev pub Upto : Row → Row → Type 0
Upto s r = s.near * r.far ≤ r.near * s.far

abbrev pub Below : Row → Row → Type 0
Below s r = s.near * r.far < r.near * s.far

upto-below : (h s r : Row) → 0 < h.far → Upto h s → Below s r → Below h r
upto-below h s r pos hs sr =
    lt_of_mul-lt-mul_left s.far
    (omega (arith, mul-le-mul_left r.far hs, mul-le-mul_left h.far sr))

-- A fact of every movable row.
abbrev Movables : (Row → Type 0) → List Row → Type 0
Movables P rs = (m : ℕ) → m < length rs → (get_or rs m no_row).movable ≡ true → P (get_or rs m no_row)

-- How the row found so far stands to a row that is passed over, and to one that takes its place.
abbrev Passes : Next → Row → Type 0
Passes Nobody s = ⊥
Passes (At k r) s = Upto s r

abbrev Yields : Next → Row → Type 0
Yields Nobody r = Unit {0}
Yields (At k s) r = Below s r

abbrev Positive : Next → Type 0
Positive Nobody = Unit {0}
Positive (At k s) = 0 < s.far

abbrev Led : List Row → ℕ → Row → Type 0
Led rs j r =
    (m : ℕ) → m < length rs → (get_or rs m no_row).movable ≡ true
    → (m < j → Below (get_or rs m no_row) r) × Upto (get_or rs m no_row) r

-- What a scan of the rows, numbered from i, makes of x.
data Scanned (rs : List Row) (i : ℕ) (x : Next) : Next → Type 0 where
  same : Movables (Passes x) rs → Scanned rs i x x
  new : (k j : ℕ) (r : Row) → k ≡ i + j → j < length rs → get_or rs j no_row ≡ r → r.movable ≡ true → Led rs j r → Yields x r → Scanned rs i x (At k r)

yields-below : (x : Next) (h r : Row) → 0 < h.far → Passes x h → Yields x r → Below h r
yields-below Nobody h r pos p y = absurd p
yields-below (At k s) h r pos p y = upto-below h s r pos p y

yields-on : (x : Next) (h r : Row) → Positive x → Yields x h → Below h r → Yields x r
yields-on Nobody h r pos y b = tt
yields-on (At k s) h r pos y b = upto-below s h r pos (omega arith) b

-- The head is passed over ..
scan-passes : (r : Row) (rs : List Row) (i : ℕ) (x : Next) {y : Next} → (r.movable ≡ true → Passes x r × (0 < r.far))
    → Scanned rs (i + 1) x y → Scanned (r ∷ rs) i x y
scan-passes r rs i x h (same all) = same go
  where
    go : Movables (Passes x) (r ∷ rs)
    go zero l m = (h m).0
    go (suc k) l m = all k (le_of_suc-le-suc l) m
scan-passes r rs i x h (new k j s e l is mov led y) = new k (suc j) s (omega arith) (omega arith) is mov go y
  where
    go : Led (r ∷ rs) (suc j) s
    go zero l m = let b = yields-below x r s (h m).1 (h m).0 y in (λ _. b, omega arith)
    go (suc n) l m = let b = led n (le_of_suc-le-suc l) m in (λ less. b.0 (le_of_suc-le-suc less), b.1)

-- .. or takes the place.
scan-takes : (r : Row) (rs : List Row) (i : ℕ) (x : Next) {y : Next} → r.movable ≡ true → Positive x → Yields x r
    → Scanned rs (i + 1) (At i r) y → Scanned (r ∷ rs) i x y
scan-takes r rs i x mov pos yields (same all) = new i 0 r (omega arith) (omega arith) refl mov go yields
  where
    go : Led (r ∷ rs) 0 r
    go zero l m = (λ less. absurd (not-suc-le-zero less), omega arith)
    go (suc n) l m = (λ less. absurd (not-suc-le-zero less), all n (le_of_suc-le-suc l) m)
scan-takes r rs i x mov pos yields (new k j s e l is smov led y) =
    new k (suc j) s (omega arith) (omega arith) is smov go (yields-on x r s pos yields y)
  where
    go : Led (r ∷ rs) (suc j) s
    go zero l m = (λ _. y, omega arith)
    go (suc n) l m = let b = led n (le_of_suc-le-suc l) m in (λ less. b.0 (le_of_suc-le-suc less), b.1)

abbrev Law : List Row → ℕ → Type 0
Law rs i = (x : Next) → Positive x → Scanned rs i x (next_from x i rs)

better-still : (x : Next) (i : ℕ) (r : Row) → r.movable ≡ false → better x i r ≡ x
unfolding better
better-still Nobody i r e = ap (λ (t : Bool). cond t (At i r) Nobody) e
better-still (At k s) i r e = ap (λ (t : Bool). cond t (cond (ahead r s) (At i r) (At k s)) (At k s)) e

better-first : (i : ℕ) (r : Row) → r.movable ≡ true → better Nobody i r ≡ At i r
unfolding better
better-first i r e = ap (λ (t : Bool). cond t (At i r) Nobody) e

better-next : (k : ℕ) (s : Row) (i : ℕ) (r : Row) → r.movable ≡ true → better (At k s) i r ≡ cond (ahead r s) (At i r) (At k s)
unfolding better
better-next k s i r e = ap (λ (t : Bool). cond t (cond (ahead r s) (At i r) (At k s)) (At k s)) e

module _ (r : Row) (rs : List Row) (i : ℕ) (law : Law rs (i + 1)) (far : r.movable ≡ true → 0 < r.far) where
  scan-head : (x : Next) → Positive x → (t : Bool) → r.movable ≡ t → Scanned (r ∷ rs) i x (next_from (better x i r) (i + 1) rs)
  scan-head x pos false e = rw (better-still x i r e) (scan-passes r rs i x (λ m. absurd (false≢true (sym e ∙ m))) (law x pos))
  scan-head Nobody pos true e = rw (better-first i r e) (scan-takes r rs i Nobody e tt tt (law (At i r) (far e)))
  scan-head (At k s) pos true e = rw (better-next k s i r e) (go (ahead r s) refl)
    where
      go : (t : Bool) → ahead r s ≡ t → Scanned (r ∷ rs) i (At k s) (next_from (cond t (At i r) (At k s)) (i + 1) rs)
      go true a = scan-takes r rs i (At k s) e pos (ltb-true _ _ a) (law (At i r) (far e))
      go false a = scan-passes r rs i (At k s) (λ m. (ltb-false _ _ a, far e)) (law (At k s) pos)

scan-law : (rs : List Row) (i : ℕ) → Movables (λ (r : Row). 0 < r.far) rs → Law rs i
unfolding next_from
scan-law [] i far x pos = same (λ m l e. absurd (not-suc-le-zero l))
scan-law (r ∷ rs) i far x pos =
    scan-head r rs i (scan-law rs (i + 1) (λ m l e. far (suc m) (omega arith) e)) (λ e. far 0 (omega arith) e) x pos r.movable refl

-- What comes next.
pub record Leads (rs : List Row) (i : ℕ) (r : Row) : Type 0 where
  pub within : i < length rs
  pub is : get_or rs i no_row ≡ r
  pub movable : r.movable ≡ true
  pub lower : (k : ℕ) → k < i → (get_or rs k no_row).movable ≡ true → Below (get_or rs k no_row) r
  pub others : (k : ℕ) → k < length rs → (get_or rs k no_row).movable ≡ true → Upto (get_or rs k no_row) r

abbrev pub IsNext : List Row → Next → Type 0
IsNext rs Nobody = (k : ℕ) → k < length rs → (get_or rs k no_row).movable ≡ false
IsNext rs (At i r) = Leads rs i r

pub next-law : (w : ℕ) (rs : List Row) → Ready w rs → IsNext rs (next_of rs)
next-law w rs ready = go (scan-law rs 0 (λ m l e. let h = ready m l e in omega (arith, h.some, h.least)) Nobody tt)
  where
    no_more : (k : ℕ) → ((get_or rs k no_row).movable ≡ true → ⊥) → (t : Bool) → (get_or rs k no_row).movable ≡ t → (get_or rs k no_row).movable ≡ false
    no_more k h true e = absurd (h e)
    no_more k h false e = e

    go : {y : Next} → Scanned rs 0 Nobody y → IsNext rs y
    go (same all) = λ k l. no_more k (all k l) _ refl
    go (new k j r e l is mov led y) = place (omega arith) record {
      within = l;
      is = is;
      movable = mov;
      lower = λ m less h. (led m (omega arith) h).0 less;
      others = λ m less h. (led m less h).1;
    }
      where
        place : k ≡ j → Leads rs j r → Leads rs k r
        place at h = rw at h
