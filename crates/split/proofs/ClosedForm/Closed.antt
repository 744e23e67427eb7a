-- The steps end where the closed form says (`steps-closed`). One idea: a step leaves the closed form as it is. The row that is moved was the
-- first in turn, so the closed form had it where the step puts it; the other movable rows come after it, so that at their turns it was at its
-- far end already. Assumes nothing.
use mathlib.Core.Path.{◌≡◌, refl, sym, ap, ◌∙◌}
use mathlib.Core.Bool.{Bool, true, false, false≢true, cond, not, ◌&&◌, ◌||◌}
use mathlib.Core.List.{List}
use mathlib.Core.Logic.{◌≢◌}
use Prim.Native.Nat.{ℕ, zero, suc, ◌+◌, ◌≤◌, ◌<◌}
use native.Mathlib.Decide.{ℕ_discrete}
use native.Mathlib.Omega.{arith}
use borrow.Author.Tests.{leb-true, leb-false, ltb-true, ltb-false}
use lib.Dec.{leb, ltb}
use lib.ListN.{length, get_or, set, length-set}
use lib.Seq.{get_or-set_same, get_or-set_other, ext_get_or}
use Rattle.rows.proofs.Numbered.{each-length, each_at, each_same, each_set, each-upto}
use Rattle.split.specs.Home.{keep_of}
use Rattle.split.specs.Steps.{here_sum, ahead, next_of, moved_of, step_of, steps_of}
use Rattle.split.specs.Columns.{no_row, Movable, Ready}
use Rattle.split.specs.Closed.{before, at_turn, turn_sum, placed_of, closed_of}
use Rattle.split.specs.Rows.{Row, Next, Nobody, At}
use Rattle.split.proofs.steps.NextRow.{Leads, IsNext, next-law}
use Rattle.split.proofs.ClosedForm.Placed.{placed-still, placed-over, placed-within}
use Rattle.split.proofs.steps.StepByStep.{ready-set}
use Rattle.split.proofs.steps.OneStep.{moved-still, keep-near, Goes, end, part, moved-goes}
use Rattle.split.proofs.steps.RowSums.{sum-set, waiting, waiting-most, waiting_none, none-waiting}

-- ---- whose turn comes when
module _ (rs : List Row) (b : ℕ) (r : Row) (leads : Leads rs b r) (k : ℕ) (within : k < length rs)
    (can : (get_or rs k no_row).movable ≡ true) where
  -- The next row's turn comes before that of each other movable row ..
  next-before : k ≢ b → before b r k (get_or rs k no_row) ≡ true
  next-before other = go (ahead r s) (ahead s r) (ltb b k) refl refl refl
    where
      s : Row
      s = get_or rs k no_row

      go : (t u v : Bool) → ahead r s ≡ t → ahead s r ≡ u → ltb b k ≡ v → (t || (not u && v)) ≡ true
      go true u v e f g = refl
      go false true v e f g = absurd (omega (arith, ltb-true, leads.others k within can))
      go false false true e f g = refl
      go false false false e f g = absurd (omega (arith, ltb-false, leads.lower k (omega (arith, ltb-false)) can))

  -- .. and none of theirs before its.
  none_before : before k (get_or rs k no_row) b r ≡ false
  none_before = go (ahead s r) (ahead r s) (ltb k b) refl refl refl
    where
      s : Row
      s = get_or rs k no_row

      go : (t u v : Bool) → ahead s r ≡ t → ahead r s ≡ u → ltb k b ≡ v → (t || (not u && v)) ≡ false
      go true u v e f g = absurd (omega (arith, ltb-true, leads.others k within can))
      go false true v e f g = refl
      go false false true e f g = absurd (omega (arith, ltb-false, leads.lower k (ltb-true _ _ g) can))
      go false false false e f g = refl

-- ---- the ticks at a turn
module _ (w k : ℕ) (s : Row) (i : ℕ) (r : Row) where
  pub turn-still : r.movable ≡ false → at_turn w k s i r ≡ r.here
  unfolding at_turn
  turn-still e = rw e

  turn-gone : r.movable ≡ true → before i r k s ≡ true → at_turn w k s i r ≡ keep_of w r.near r.far
  unfolding at_turn
  turn-gone e f = rw (e, f)

  pub turn-least : (r.movable ≡ true → before i r k s ≡ false) → r.here ≤ at_turn w k s i r
  unfolding at_turn
  turn-least h = go r.movable (before i r k s) h
    where
      go : (t u : Bool) → (t ≡ true → u ≡ false) → r.here ≤ cond (t && u) (keep_of w r.near r.far) r.here
      go true true h = absurd (false≢true (sym (h refl)))
      go true false h = omega arith
      go false u h = omega arith

  turn-most : (r.movable ≡ true → Movable w r) → at_turn w k s i r ≤ r.here
  unfolding at_turn
  turn-most h = go r.movable (before i r k s) h
    where
      go : (t u : Bool) → (t ≡ true → Movable w r) → cond (t && u) (keep_of w r.near r.far) r.here ≤ r.here
      go true true h = omega (arith, (h refl).whole, keep-near w r.near r.far (h refl).fits)
      go true false h = omega arith
      go false u h = omega arith

module _ (w : ℕ) (rs : List Row) (ready : Ready w rs) where
  -- At no turn are there more ticks than the rows stand with ..
  sum-most : (k : ℕ) (s : Row) → turn_sum w rs k s ≤ here_sum rs
  sum-most k s =
      rw (← each_same (λ (r : Row). r.here) rs)
      (each-upto (at_turn w k s) (λ (i : ℕ) (r : Row). r.here) no_row rs (λ i l. turn-most w k s i (get_or rs i no_row) (ready i l)))

  -- .. and at the next row's turn there are just as many.
  sum-next : (b : ℕ) (r : Row) → Leads rs b r → turn_sum w rs b r ≡ here_sum rs
  sum-next b r leads =
      let least = each-upto (λ (i : ℕ) (r : Row). r.here) (at_turn w b r) no_row rs
      (λ i l. turn-least w b r i (get_or rs i no_row) (none_before rs b r leads i l)) in
      omega (arith, sum-most b r, least, each_same (λ (r : Row). r.here) rs)

-- ---- the closed form
pub closed_at : (w room : ℕ) (rs : List Row) (k : ℕ) → k < length rs
    → get_or (closed_of w room rs) k no_row ≡ placed_of w room (turn_sum w rs k (get_or rs k no_row)) (get_or rs k no_row)
closed_at w room rs k l = each_at (λ (k : ℕ) (r : Row). placed_of w room (turn_sum w rs k r) r) no_row rs k l

-- Where no row goes anywhere, the closed form is the rows as they stand.
closed_same : (w room : ℕ) (rs : List Row)
    → ((k : ℕ) → k < length rs → placed_of w room (turn_sum w rs k (get_or rs k no_row)) (get_or rs k no_row) ≡ get_or rs k no_row)
    → closed_of w room rs ≡ rs
closed_same w room rs h =
    ext_get_or no_row _ _ (simp each-length) (λ k l. let old : k < length rs = rw each-length at l in closed_at w room rs k old ∙ h k old)

-- ---- a step
module _ (w room : ℕ) (rs : List Row) (ready : Ready w rs) (b : ℕ) (r : Row) (leads : Leads rs b r) where
  -- The ticks after a step, and those at another row's turn.
  step_sum : (v : Row) → here_sum (set rs b v) + r.here ≡ here_sum rs + v.here
  step_sum v = rw leads.is at (sum-set (λ (x : Row). x.here) rs b v leads.within)

  step-waiting : (v : Row) → v.movable ≡ false → waiting (set rs b v) + 1 ≡ waiting rs
  step-waiting v still =
      let one : Bool → ℕ = λ t. cond t 1 0 in
      omega (arith, rw leads.is at (sum-set (λ (x : Row). one x.movable) rs b v leads.within), ap one leads.movable, ap one still)

  step-turn : (v : Row) → v.movable ≡ false → (k : ℕ) → k < length rs → (get_or rs k no_row).movable ≡ true → k ≢ b
      → turn_sum w (set rs b v) k (get_or rs k no_row) + keep_of w r.near r.far ≡ turn_sum w rs k (get_or rs k no_row) + v.here
  step-turn v still k l can other =
      let s : Row = get_or rs k no_row in
      rw (leads.is, turn-gone w k s b r leads.movable (next-before rs b r leads k l can other), turn-still w k s b v still)
      at (each_set (at_turn w k s) no_row v rs b leads.within)

  step-goes : Goes w room (here_sum rs) r (moved_of w room (here_sum rs) r)
  step-goes = moved-goes w room (here_sum rs) r (omega (arith, step_sum no_row))

  -- Another row goes where it went.
  step_other : {v : Row} → Goes w room (here_sum rs) r v → (k : ℕ) → k < length rs → k ≢ b → (t : Bool) → (get_or rs k no_row).movable ≡ t
      → placed_of w room (turn_sum w (set rs b v) k (get_or rs k no_row)) (get_or rs k no_row)
      ≡ placed_of w room (turn_sum w rs k (get_or rs k no_row)) (get_or rs k no_row)
  step_other goes k l other false can = simp placed-still
  step_other {v} (end h) k l other true can =
      let same : turn_sum w (set rs b v) k (get_or rs k no_row) ≡ turn_sum w rs k (get_or rs k no_row) =
      omega (arith, step-turn v refl k l can other) in
      rw same
  step_other {v} (part h more e) k l other true can =
      let after = sum-most w (set rs b v) (ready-set w rs b v leads.within refl ready) k (get_or rs k no_row) in
      let turn = step-turn v refl k l can other in
      let sum = step_sum v in
      let now : turn_sum w (set rs b v) k (get_or rs k no_row) ≤ room = omega arith in
      let was : turn_sum w rs k (get_or rs k no_row) ≤ room = omega arith in
      simp placed-within

  -- A step leaves the closed form as it is.
  step-closed : room < here_sum rs → closed_of w room (set rs b (moved_of w room (here_sum rs) r)) ≡ closed_of w room rs
  step-closed over =
      ext_get_or no_row _ _ (simp (each-length, length-set)) (λ k l. at k (rw (each-length, length-set) at l))
    where
      v : Row
      v = moved_of w room (here_sum rs) r

      at : (k : ℕ) → k < length rs → get_or (closed_of w room (set rs b v)) k no_row ≡ get_or (closed_of w room rs) k no_row
      at k l = rw (closed_at w room (set rs b v) k (rw length-set l), closed_at w room rs k l) (go (ℕ_discrete k b))
        where
          go : Dec (k ≡ b) → placed_of w room (turn_sum w (set rs b v) k (get_or (set rs b v) k no_row)) (get_or (set rs b v) k no_row)
              ≡ placed_of w room (turn_sum w rs k (get_or rs k no_row)) (get_or rs k no_row)
          go (yes e) =
              rw (e, get_or-set_same rs b v no_row leads.within, leads.is, sum-next w rs ready b r leads, placed-over w room (here_sum rs) r leads.movable over)
              (placed-still w room (turn_sum w (set rs b v) b v) v (moved-still w room (here_sum rs) r))
          go (no e) = rw (get_or-set_other rs b k v no_row e) (step_other step-goes k l e (get_or rs k no_row).movable refl)

-- ---- the steps
-- One turn of the steps, in which n more are left.
turn-closed : (n w room : ℕ) (rs : List Row) → Ready w rs → waiting rs ≤ suc n
    → ((xs : List Row) → Ready w xs → waiting xs ≤ n → steps_of n w room xs ≡ closed_of w room xs)
    → (t : Bool) → leb (here_sum rs) room ≡ t → (x : Next) → IsNext rs x
    → cond t rs (steps_of n w room (step_of w room rs x)) ≡ closed_of w room rs
unfolding step_of
turn-closed n w room rs ready enough law true t x next =
    sym (closed_same w room rs (λ k l. placed-within w room _ _ (omega (arith, leb-true, sum-most w rs ready k (get_or rs k no_row)))))
turn-closed n w room rs ready enough law false t Nobody next =
    law rs ready (omega (arith, none-waiting rs next))
turn-closed n w room rs ready enough law false t (At b r) next =
    let v : Row = moved_of w room (here_sum rs) r in
    let still = moved-still w room (here_sum rs) r in
    law (set rs b v) (ready-set w rs b v next.within still ready) (omega (arith, step-waiting w room rs ready b r next v still)) ∙ step-closed w room rs ready b r next (leb-false _ _ t)

steps-enough : (n w room : ℕ) (rs : List Row) → Ready w rs → waiting rs ≤ n → steps_of n w room rs ≡ closed_of w room rs
unfolding steps_of
steps-enough zero w room rs ready enough =
    sym (closed_same w room rs (λ k l. placed-still w room _ _ (waiting_none rs (omega arith) k l)))
steps-enough (suc n) w room rs ready enough =
    turn-closed n w room rs ready enough (λ xs. steps-enough n w room xs) (leb (here_sum rs) room) refl (next_of rs) (next-law w rs ready)

-- With a step for each row the steps end where the closed form says.
pub steps-closed : (n w room : ℕ) (rs : List Row) → Ready w rs → length rs ≤ n → steps_of n w room rs ≡ closed_of w room rs
steps-closed n w room rs ready enough =
    steps-enough n w room rs ready (omega (arith, waiting-most rs))
