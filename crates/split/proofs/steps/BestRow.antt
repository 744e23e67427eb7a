-- The row that comes next, by costs alone: a scan of the columns finds the row that the rule names. Assumes nothing.
use mathlib.Core.Path.{◌≡◌, refl, ap, ◌∙◌}
use mathlib.Core.Bool.{Bool, true, false, cond}
use mathlib.Core.List.{List, [], ◌∷◌, ◌++◌}
use Prim.Native.Nat.{ℕ, zero, suc, ◌+◌, ◌*◌, ◌≤◌, ◌<◌}
use native.Mathlib.Numerals.{add-one}
use borrow.Author.Tests.{lt-ltb, le-ltb}
use native.Mathlib.Nat.{zero-add}
use native.Mathlib.Omega.{arith}
use lib.Dec.{ltb}
use lib.ListN.{length}
use Rattle.rows.specs.Upto.{at}
use Rattle.rows.proofs.Upto.{upto-length, upto-more}
use Rattle.split.specs.Steps.{ahead, better, next_from, next_of}
use Rattle.split.specs.Columns.{row_in, rows_in}
use Rattle.split.specs.Rows.{Row, Next, Nobody, At}

next_more : (x : Next) (k : ℕ) (rs : List Row) (r : Row) → next_from x k (rs ++ (r ∷ [])) ≡ better (next_from x k rs) (k + length rs) r
unfolding next_from
next_more x k [] r = ap (λ (m : ℕ). better x m r) (omega arith)
next_more x k (s ∷ rs) r = rw (next_more (better x k s) (k + 1) rs r) (ap (λ (m : ℕ). better (next_from (better x k s) (k + 1) rs) m r) (omega arith))

module _ (near far here there : List ℕ) where
  abbrev row : ℕ → Row
  row i = row_in near far here there i

  abbrev rows : ℕ → List Row
  rows i = rows_in i near far here there

  one-more : (i : ℕ) → next_of (rows (i + 1)) ≡ better (next_of (rows i)) i (row i)
  one-more i = rw (upto-more i row, next_more Nobody 0 (rows i) (row i), upto-length i row, zero-add)

  -- No row has a near cost.
  pub nobody_rows : (i : ℕ) → ((k : ℕ) → k < i → at near k ≡ 0) → next_of (rows i) ≡ Nobody
  unfolding better next_from
  nobody_rows zero none = refl
  nobody_rows (suc i) none =
      let e : next_of (rows (i + 1)) ≡ Nobody = one-more i ∙ rw (nobody_rows i (λ k l. none k (omega arith)), none i (omega arith)) in
      rw add-one at e

  -- The best of the first i rows is one of them.
  abbrev pub Leading : (i best : ℕ) → Type 0
  Leading i best = next_of (rows i) ≡ At best (row best)

  pub leading_first : (i : ℕ) → ((k : ℕ) → k < i → at near k ≡ 0) → 0 < at near i → Leading (i + 1) i
  unfolding better
  leading_first i none some = one-more i ∙ rw (nobody_rows i none, lt-ltb 0 (at near i) some)

  pub leading_more : (i best : ℕ) → at near best * at far i < at near i * at far best → Leading i best → Leading (i + 1) i
  unfolding better
  leading_more i best more led = one-more i ∙ rw (led, lt-ltb 0 (at near i) (some (at near i) more), lt-ltb _ _ more)
    where
      some : (a : ℕ) → at near best * at far i < a * at far best → 0 < a
      some zero h = omega arith
      some (suc a) h = omega arith

  pub leading_still : (i best : ℕ) → at near i * at far best ≤ at near best * at far i → Leading i best → Leading (i + 1) best
  unfolding better
  leading_still i best less led = one-more i ∙ rw (led, le-ltb _ _ less) (go (ltb 0 (at near i)))
    where
      go : (m : Bool) → cond m (At best (row best)) (At best (row best)) ≡ At best (row best)
      go true = refl
      go false = refl
