-- The steps, from rows that stand and take at least the room: they end stuck, with no row to move and prices 1 and 0 at which the
-- rows cost more than the room here; or full, the room here taken exactly, and the rows whole and at most one of them uneven, at the prices
-- of the row moved last, whose own rounding is the excess. Assumes nothing.
use mathlib.Core.Path.{◌≡◌, refl, ap, sym, ◌∙◌}
use mathlib.Core.Bool.{Bool, true, false, false≢true, cond}
use mathlib.Core.List.{List}
use Prim.Native.Nat.{ℕ, zero, suc, ◌+◌, ◌*◌, ◌-◌, ◌≤◌, ◌<◌}
use native.Mathlib.Omega.{arith}
use borrow.Author.Tests.{leb-true, leb-false}
use lib.Dec.{leb}
use lib.ListN.{length, get_or, set, length-set}
use Rattle.rows.specs.Lists.{sum_of}
use Rattle.model.specs.Empty.{no_job}
use Rattle.model.specs.Movers.{unevens}
use Rattle.model.specs.Split.{AllDone}
use Rattle.model.specs.declared.Kind.{Kind}
use Rattle.model.specs.declared.Job.{Job}
use Rattle.split.specs.Home.{ceil, keep_of, give_of}
use Rattle.split.specs.Steps.{here_sum, there_sum, next_of, put, moved_of, step_of, steps_of}
use Rattle.split.specs.Columns.{no_row}
use Rattle.split.specs.Shares.{shares_seen}
use Rattle.split.specs.Rows.{Row, Next, Nobody, At}
use Rattle.split.proofs.steps.NextRow.{Leads, IsNext, next-law}
use Rattle.split.proofs.Demands.View.{see, DoneSeen}
use Rattle.split.proofs.Demands.Price.{Priced, priced-more, Each, each-priced, each-does}
use Rattle.split.proofs.Demands.RowPrices.{Waits, Stand, stand-later, far-stands, part-does}
use Rattle.split.proofs.Demands.Bounds.{part-most}
use Rattle.split.proofs.Demands.Unevens.{unevens-none, unevens-set}
use Rattle.split.proofs.steps.RowSums.{sum-set, set-each, waiting, waiting_none, none-waiting}
use Rattle.split.proofs.steps.StepByStep.{steps-within}

module _ (k : Kind) (w room : ℕ) (js : List Job) where
  -- What holds of the rows whenever a step begins.
  pub record Standing (p q : ℕ) (rs : List Row) : Type 0 where
    pub some : 0 < q
    pub dear : q ≤ p
    pub same : length js ≡ length rs
    pub each : Each (Stand w p q) k js rs
    pub over : room ≤ here_sum rs

  pub data Ends (out : List Row) : Type 0 where
    stuck : room < here_sum out → Priced k w 1 0 js out 0 → Ends out
    full : here_sum out ≡ room → AllDone w 1 js (shares_seen k out) → unevens w (shares_seen k out) ≤ 1 → (p q e : ℕ) → e < q → Priced k w p q js out e → Ends out

  -- Rows that stand are priced now and at all later prices at which the rows that wait are cheaper at home.
  stands-priced : {p q : ℕ} {rs : List Row} → Standing p q rs → (p' q' : ℕ) → q' ≤ p' → p * q' ≤ q * p'
      → ((i : ℕ) → i < length rs → (get_or rs i no_row).movable ≡ true → p' * (get_or rs i no_row).near ≤ q' * (get_or rs i no_row).far)
      → Priced k w p' q' js rs 0
  stands-priced {rs = rs} s p' q' dear later cheap =
      each-priced k w p' q' js rs s.same (λ i h. (s.each i h).worth p' q' dear later (cheap i h))

  pub stands-now : {p q : ℕ} {rs : List Row} → Standing p q rs → Priced k w p q js rs 0
  stands-now {p} {q} s = stands-priced s p q s.dear (omega arith) (λ i l m. ((s.each i l).waits m).cheap)

  stands-full : {p q : ℕ} {rs : List Row} → Standing p q rs → here_sum rs ≤ room → Ends rs
  stands-full {p} {q} {rs} s h =
      full (omega (arith, s.over)) (each-does k w js rs s.same (λ i l. (s.each i l).done))
      (omega (arith, unevens-none w k rs (λ i l. (s.each i l).even)))
      p q 0 s.some (stands-now s)

  stands-stuck : {p q : ℕ} {rs : List Row} → Standing p q rs → room < here_sum rs → waiting rs ≡ 0 → Ends rs
  stands-stuck {p} {q} {rs} s h none =
      stuck h
      (stands-priced s 1 0 (omega arith) (omega arith)
      (λ i l m. absurd (false≢true (sym (waiting_none rs none i l) ∙ m))))

  -- What the steps that are left make of any rows that stand.
  abbrev Law : ℕ → Type 0
  Law n = (p q : ℕ) (rs : List Row) → Standing p q rs → waiting rs ≤ n → Ends (steps_of n w room rs)

  module _ (p q : ℕ) (rs : List Row) (s : Standing p q rs) (over : room < here_sum rs) (i : ℕ) (r : Row) (lead : Leads rs i r) where
    waits : Waits w p q (see k (get_or js i no_job)) r
    waits = (rw lead.is at (s.each i lead.within)).waits lead.movable

    -- The rows stand at the prices of the row that is moved.
    later : Standing r.far r.near rs
    later =
        record {
          some = waits.row.some;
          dear = waits.row.least;
          same = s.same;
          each = λ m l.
              stand-later w p q r.far r.near (see k (get_or js m no_job)) (get_or rs m no_row) waits.row.some waits.cheap
              (λ t. omega (arith, lead.others m l t)) (s.each m l);
          over = s.over;
        }

    abbrev others : ℕ
    others = here_sum rs - r.here

    abbrev stays : ℕ
    stays = keep_of w r.near r.far

    moved_sum : (f : Row → ℕ) (y : Row) → sum_of f (set rs i y) + f r ≡ sum_of f rs + f y
    moved_sum f y = rw lead.is at (sum-set f rs i y lead.within)

    moved_here : (y : Row) → (here_sum (set rs i y) + r.near ≡ here_sum rs + y.here) × (r.here ≡ r.near) × (r.near ≤ here_sum rs)
    moved_here y =
        omega (arith, moved_sum (λ (x : Row). x.here) y, moved_sum (λ (x : Row). x.here) no_row, waits.row.whole)

    gone-stands : room ≤ others + stays → Standing r.far r.near (set rs i (put r stays (give_of w r.near r.far)))
    gone-stands h =
        let y : Row = put r stays (give_of w r.near r.far) in
        record {
          some = waits.row.some;
          dear = waits.row.least;
          same = simp length-set s.same;
          each = λ m l.
              set-each (λ (m : ℕ) (x : Row). Stand w r.far r.near (see k (get_or js m no_job)) x) rs i y lead.within later.each
              (rw waits.is (far-stands w r waits.row)) m (simp length-set at l);
          over = omega (arith, moved_here y);
        }

    module _ (t u : ℕ) (is : t ≡ room - others) (up : u ≡ ceil (r.far * (r.near - t)) r.near) (h : others + stays < room) where
      most : t ≤ r.near
      most = omega (arith, moved_here no_row)

      cost : r.far * here_sum (set rs i (put r t u)) + r.near * there_sum (set rs i (put r t u))
          ≤ r.far * here_sum rs + r.near * there_sum rs + (r.near - 1)
      cost =
          omega (
            arith,
            ap (λ (x : ℕ). r.far * x) (moved_here (put r t u)).0,
            ap (λ (x : ℕ). r.near * x) (moved_sum (λ (x : Row). x.there) (put r t u)),
            ap (λ (x : ℕ). r.near * x) waits.row.bare,
            rw (← up) at (part-most r.near r.far t most),
          )

      part-full : here_sum (set rs i (put r t u)) ≡ room
      part-full = omega (arith, moved_here (put r t u))

      part-ends : Ends (set rs i (put r t u))
      part-ends =
          full part-full
          (each-does k w js (set rs i (put r t u)) (simp length-set s.same)
          (λ m l.
          set-each (λ (m : ℕ) (x : Row). DoneSeen w 1 (see k (get_or js m no_job)) x.here x.there) rs i (put r t u) lead.within
          (λ m l. (s.each m l).done) (rw (waits.is, up) (part-does w r waits.row t most (omega arith))) m (simp length-set at l)))
          (omega (arith, unevens-set w k rs i (put r t u) lead.within, unevens-none w k rs (λ i l. (s.each i l).even)))
          r.far r.near (r.near - 1) (omega (arith, waits.row.some))
          (priced-more k w r.far r.near (r.near - 1) js rs (set rs i (put r t u)) (stands-now later) cost)

    moved_ends : (n : ℕ) → Law n → waiting rs ≤ suc n → (t : Bool) → leb room (others + stays) ≡ t
        → Ends (steps_of n w room (set rs i
        (cond t (put r stays (give_of w r.near r.far))
        (put r (room - others) (ceil (r.far * (r.near - (room - others))) r.near)))))
    moved_ends n law fuel true e =
        let y : Row = put r stays (give_of w r.near r.far) in
        law r.far r.near (set rs i y) (gone-stands (leb-true _ _ e))
        (omega (arith, rw lead.movable at (moved_sum (λ (x : Row). cond x.movable 1 0) y)))
    moved_ends n law fuel false e =
        let t : ℕ = room - others in
        let u : ℕ = ceil (r.far * (r.near - t)) r.near in
        let h : others + stays < room = leb-false _ _ e in
        rw (steps-within n w room (set rs i (put r t u)) (omega (arith, part-full t u refl refl h))) (part-ends t u refl refl h)

  step-ends : (n p q : ℕ) (rs : List Row) → Law n → Standing p q rs → room < here_sum rs → waiting rs ≤ suc n → (x : Next) → IsNext rs x
      → Ends (steps_of n w room (step_of w room rs x))
  unfolding step_of moved_of
  step-ends n p q rs law s over fuel Nobody none = law p q rs s (omega (arith, none-waiting rs none))
  step-ends n p q rs law s over fuel (At i r) lead = moved_ends p q rs s over i r lead n law fuel _ refl

  pub steps-end : (n : ℕ) → Law n
  unfolding steps_of
  steps-end zero p q rs s fuel = go (leb (here_sum rs) room) refl
    where
      go : (t : Bool) → leb (here_sum rs) room ≡ t → Ends rs
      go true e = stands-full s (leb-true _ _ e)
      go false e = stands-stuck s (leb-false _ _ e) (omega arith)
  steps-end (suc n) p q rs s fuel = go (leb (here_sum rs) room) refl (steps-end n)
    where
      go : (t : Bool) → leb (here_sum rs) room ≡ t → Law n → Ends (cond t rs (steps_of n w room (step_of w room rs (next_of rs))))
      go true e law = stands-full s (leb-true _ _ e)
      go false e law =
          step-ends n p q rs law s (leb-false _ _ e) fuel (next_of rs) (next-law w rs (λ i l m. ((s.each i l).waits m).row))
