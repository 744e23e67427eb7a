-- Where the steps from rows that take at least the room stop, by the far ends: above the room where the rows are above it with all that can be
-- moved at their far ends, and else exactly at it (`steps-stop`). One idea: a step to a far end leaves that sum as it is, and one that stops
-- short of it fills the room. Assumes nothing.
use mathlib.Core.Path.{◌≡◌, refl}
use mathlib.Core.Bool.{Bool, true, false, cond}
use mathlib.Core.List.{List, [], ◌∷◌}
use Prim.Native.Nat.{ℕ, zero, suc, ◌+◌, ◌≤◌, ◌<◌}
use native.Mathlib.Omega.{arith}
use borrow.Author.Tests.{leb-true, leb-false}
use lib.Dec.{leb}
use lib.ListN.{length, get_or, set}
use Rattle.rows.specs.Lists.{sum_of}
use Rattle.split.specs.Causes.{keeps}
use Rattle.split.specs.Columns.{no_row, Movable, Ready}
use Rattle.split.specs.Home.{keep_of}
use Rattle.split.specs.Rows.{Row, Next, Nobody, At}
use Rattle.split.specs.Steps.{here_sum, next_of, step_of, steps_of}
use Rattle.split.proofs.steps.NextRow.{IsNext, next-law}
use Rattle.split.proofs.steps.OneStep.{keep-near, Goes, end, part, moved-goes}
use Rattle.split.proofs.steps.RowSums.{sum-set, waiting, waiting_none, none-waiting}
use Rattle.split.proofs.steps.StepByStep.{steps-within, here-among, ready-set}

module _ (w room : ℕ) where
  abbrev far_sum : List Row → ℕ
  far_sum rs = sum_of (keeps w) rs

  pub data Stops (rs out : List Row) : Type 0 where
    above : room < here_sum out → room < far_sum rs → Stops rs out
    filled : here_sum out ≡ room → far_sum rs ≤ room → Stops rs out

  -- At their far ends rows have no more ticks, and no fewer where none can be moved.
  far-most : (rs : List Row) → Ready w rs → far_sum rs ≤ here_sum rs
  far-most [] ready = omega arith
  far-most (r ∷ rs) ready = omega (arith, go r.movable (ready 0 (omega arith)), far-most rs (λ i l. ready (suc i) (omega arith)))
    where
      go : (t : Bool) → (t ≡ true → Movable w r) → cond t (keep_of w r.near r.far) r.here ≤ r.here
      go true mine = omega (arith, keep-near w r.near r.far (mine refl).fits, (mine refl).whole)
      go false mine = omega arith

  far-still : (rs : List Row) → ((i : ℕ) → i < length rs → (get_or rs i no_row).movable ≡ false) → far_sum rs ≡ here_sum rs
  far-still [] still = refl
  far-still (r ∷ rs) still = rw (still 0 (omega arith)) (omega (arith, far-still rs (λ i l. still (suc i) (omega arith))))

  -- Rows that the steps leave as they are.
  stays : (rs : List Row) → Ready w rs → room ≤ here_sum rs → here_sum rs ≤ room → Stops rs rs
  stays rs ready least h = filled (omega arith) (omega (arith, far-most rs ready))

  same-far : {rs out : List Row} (more : List Row) → far_sum more ≡ far_sum rs → Stops more out → Stops rs out
  same-far more e (above h far) = above h (omega (arith, e))
  same-far more e (filled h far) = filled h (omega (arith, e))

  abbrev Law : ℕ → Type 0
  Law n = (rs : List Row) → Ready w rs → room ≤ here_sum rs → waiting rs ≤ n → Stops rs (steps_of n w room rs)

  step-stops : (n : ℕ) (rs : List Row) → Law n → Ready w rs → room ≤ here_sum rs → waiting rs ≤ suc n → (x : Next) → IsNext rs x
      → Stops rs (steps_of n w room (step_of w room rs x))
  unfolding step_of
  step-stops n rs law ready least fuel Nobody none = law rs ready least (omega (arith, none-waiting rs none))
  step-stops n rs law ready least fuel (At i r) lead = go (moved-goes w room (here_sum rs) r (rw lead.is at (here-among rs i)))
    where
      moved : (f : Row → ℕ) (y : Row) → sum_of f (set rs i y) + f r ≡ sum_of f rs + f y
      moved f y = rw lead.is at (sum-set f rs i y lead.within)

      far-moved : (y : Row) → far_sum (set rs i y) + keep_of w r.near r.far ≡ far_sum rs + keeps w y
      far-moved y = rw lead.movable at (moved (keeps w) y)

      go : {y : Row} → Goes w room (here_sum rs) r y → Stops rs (steps_of n w room (set rs i y))
      go {y} (end h) =
          same-far (set rs i y) (omega (arith, far-moved y))
          (law (set rs i y) (ready-set w rs i y lead.within refl ready) (omega (arith, moved (λ (x : Row). x.here) y))
          (omega (arith, rw lead.movable at (moved (λ (x : Row). cond x.movable 1 0) y))))
      go {y} (part h more e) =
          let here : here_sum (set rs i y) ≡ room = omega (arith, moved (λ (x : Row). x.here) y) in
          rw (steps-within n w room (set rs i y) (omega arith))
          (filled here (omega (arith, far-moved y, far-most (set rs i y) (ready-set w rs i y lead.within refl ready))))

  pub steps-stop : (n : ℕ) → Law n
  unfolding steps_of
  steps-stop zero rs ready least fuel = go (leb (here_sum rs) room) refl
    where
      go : (t : Bool) → leb (here_sum rs) room ≡ t → Stops rs rs
      go true e = stays rs ready least (leb-true _ _ e)
      go false e = let over = leb-false _ _ e in above over (omega (arith, far-still rs (waiting_none rs (omega arith))))
  steps-stop (suc n) rs ready least fuel = go (leb (here_sum rs) room) refl (steps-stop n)
    where
      go : (t : Bool) → leb (here_sum rs) room ≡ t → Law n → Stops rs (cond t rs (steps_of n w room (step_of w room rs (next_of rs))))
      go true e law = stays rs ready least (leb-true _ _ e)
      go false e law = step-stops n rs law ready least fuel (next_of rs) (next-law w rs ready)
