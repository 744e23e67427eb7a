-- Where a row goes, by the ticks of all rows at its turn, and that more room never takes it further away: its ticks here never fall and
-- those there never rise. One idea: below its far end a row is at its far end, and from there on its ticks there are the rest of its
-- work rounded up, which falls as it keeps more. Assumes nothing.
use mathlib.Core.Path.{◌≡◌, refl}
use mathlib.Core.Bool.{Bool, true, false, cond, ◌&&◌}
use Prim.Native.Nat.{ℕ, ◌+◌, ◌-◌, ◌*◌, ◌≤◌, ◌<◌, min}
use native.Mathlib.Nat.{mul-le-mul_left}
use native.Mathlib.Omega.{arith}
use borrow.Author.Tests.{ltb-true, ltb-false, lt-ltb, le-ltb}
use lib.Dec.{ltb}
use Rattle.split.specs.Home.{ceil, keep_of, give_of}
use Rattle.split.specs.Steps.{moved_of}
use Rattle.split.specs.Columns.{Movable}
use Rattle.split.specs.Closed.{placed_of}
use Rattle.split.specs.Rows.{Row}
use Rattle.split.proofs.steps.Number.{ceil-below, ceil-least}
use Rattle.split.proofs.steps.OneStep.{keep-near, rest-give, Goes, end, part, moved-goes}

-- A row stays if it cannot be moved, or if the ticks are within the room; else it goes by one step's rule.
module _ (w room all : ℕ) (r : Row) where
  pub placed-still : r.movable ≡ false → placed_of w room all r ≡ r
  unfolding placed_of
  placed-still e = rw e

  pub placed-over : r.movable ≡ true → room < all → placed_of w room all r ≡ moved_of w room all r
  unfolding placed_of
  placed-over e h = rw (e, lt-ltb room all h)

  pub placed-within : all ≤ room → placed_of w room all r ≡ r
  unfolding placed_of
  placed-within h = rw (le-ltb room all h) (go r.movable)
    where
      go : (t : Bool) → cond (t && false) (moved_of w room all r) r ≡ r
      go true = refl
      go false = refl

-- The rest of a job's work, rounded up, where it keeps h of its n ticks at home: it falls as h grows.
rest-falls : (n f h k : ℕ) → 0 < n → h ≤ k → ceil (f * (n - k)) n ≤ ceil (f * (n - h)) n
rest-falls n f h k some more =
    ceil-below (f * (n - k)) n (ceil (f * (n - h)) n) some
    (omega (arith, ceil-least (f * (n - h)) n some, mul-le-mul_left {m = n - k} {n = n - h} f (omega arith)))

-- A movable row, where it goes: at its far end, or with as much of its cost here as there is room for and the rest there.
data Lies (w room all : ℕ) (r : Row) (v : Row) : Type 0 where
  away : room < all → room + r.near ≤ all + keep_of w r.near r.far → v.here ≡ keep_of w r.near r.far
      → v.there ≡ give_of w r.near r.far → Lies w room all r v
  kept : keep_of w r.near r.far ≤ v.here → (room < all → keep_of w r.near r.far < v.here) → v.here ≡ min r.near (room + r.near - all)
      → v.there ≡ ceil (r.far * (r.near - v.here)) r.near → Lies w room all r v

module _ (w : ℕ) (r : Row) (mine : Movable w r) where
  stay-lies : (room all : ℕ) → all ≤ room → Lies w room all r r
  stay-lies room all within =
      let none = ceil-below (r.far * (r.near - r.here)) r.near 0 mine.some
      (omega (arith, mul-le-mul_left {m = r.near - r.here} {n = 0} r.far (omega (arith, mine.whole)))) in
      kept (omega (arith, mine.whole, keep-near w r.near r.far mine.fits)) (λ over. absurd (omega arith)) (omega (arith, mine.whole)) (omega (arith, mine.bare))

  goes-lies : (room all : ℕ) {v : Row} → room < all → Goes w room all r v → Lies w room all r v
  goes-lies room all over (end h) = away over (omega (arith, mine.whole)) refl refl
  goes-lies room all over (part h more e) = kept (omega arith) (λ _. more) (omega (arith, mine.whole)) refl

  placed-lies : (room all : ℕ) → r.movable ≡ true → r.here ≤ all → Lies w room all r (placed_of w room all r)
  placed-lies room all can among = go (ltb room all) refl
    where
      go : (t : Bool) → ltb room all ≡ t → Lies w room all r (placed_of w room all r)
      go true e = rw (placed-over w room all r can (ltb-true _ _ e)) (goes-lies room all (ltb-true _ _ e) (moved-goes w room all r among))
      go false e = rw (placed-within w room all r (ltb-false _ _ e)) (stay-lies room all (ltb-false _ _ e))

  -- With more room a row has no fewer ticks here and no more there.
  lies_more : (room all room' all' : ℕ) → room + all' ≤ room' + all → {u v : Row} → Lies w room all r u → Lies w room' all' r v
      → (u.here ≤ v.here) × (v.there ≤ u.there)
  lies_more room all room' all' more {u} {v} (away o h e f) (away o' h' e' f') = omega arith
  lies_more room all room' all' more {u} {v} (away o h e f) (kept l' k' e' f') =
      (omega arith, omega (arith, rest-give w r.near r.far v.here mine.some mine.fits l'))
  lies_more room all room' all' more {u} {v} (kept l k e f) (away o' h' e' f') = absurd (omega (arith, k (omega arith)))
  lies_more room all room' all' more {u} {v} (kept l k e f) (kept l' k' e' f') =
      let here : u.here ≤ v.here = omega arith in
      (here, omega (arith, rest-falls r.near r.far u.here v.here mine.some here))

  lies-bounds : (room all : ℕ) {v : Row} → Lies w room all r v → (keep_of w r.near r.far ≤ v.here) × (v.here ≤ r.near)
  lies-bounds room all (away o h e f) = omega (arith, keep-near w r.near r.far mine.fits)
  lies-bounds room all (kept l k e f) = omega arith

  pub placed-bounds : (room all : ℕ) → r.movable ≡ true → r.here ≤ all
      → (keep_of w r.near r.far ≤ (placed_of w room all r).here) × ((placed_of w room all r).here ≤ r.near)
  placed-bounds room all can among = lies-bounds room all (placed-lies room all can among)

-- The room less the ticks of the other rows grows from the first pair to the second: stated as a sum, since either may be below zero.
pub placed-more : (w : ℕ) (r : Row) → (r.movable ≡ true → Movable w r) → (room all room' all' : ℕ)
    → r.here ≤ all → r.here ≤ all' → room + all' ≤ room' + all
    → ((placed_of w room all r).here ≤ (placed_of w room' all' r).here) × ((placed_of w room' all' r).there ≤ (placed_of w room all r).there)
placed-more w r ready room all room' all' among among' more = go r.movable refl
  where
    go : (t : Bool) → r.movable ≡ t
        → ((placed_of w room all r).here ≤ (placed_of w room' all' r).here) × ((placed_of w room' all' r).there ≤ (placed_of w room all r).there)
    go true e =
        lies_more w r (ready e) room all room' all' more
        (placed-lies w r (ready e) room all e among) (placed-lies w r (ready e) room' all' e among')
    go false e = rw (placed-still w room all r e, placed-still w room' all' r e) (omega arith)
