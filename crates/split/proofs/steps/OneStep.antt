-- One step: where its rule takes a row, to the far end or to what is left of the room (`Goes`), and that it keeps within its cost here and the
-- window there (`moved-fits`). Assumes nothing.
use mathlib.Core.Path.{◌≡◌, refl}
use mathlib.Core.Bool.{Bool, true, false, cond}
use Prim.Native.Nat.{ℕ, ◌+◌, ◌-◌, ◌*◌, ◌≤◌, ◌<◌}
use native.Mathlib.Nat.{mul-le-mul_left}
use native.Mathlib.Omega.{arith}
use borrow.Author.Tests.{leb-true, leb-false}
use lib.Dec.{leb}
use Rattle.model.specs.Limits.{window_most}
use Rattle.split.specs.Home.{ceil, both_row, keep_of, give_of}
use Rattle.split.specs.Steps.{put, moved_of}
use Rattle.split.specs.Columns.{Movable, Asks, gone_to, end_of}
use Rattle.split.specs.Rows.{Row}
use Rattle.split.specs.declared.Ends.{Ends}
use Rattle.split.proofs.steps.Number.{ceil-below, ceil-least, keep-most, tight-fits}

-- The far end keeps at most the cost at home.
pub keep-near : (w n f : ℕ) → n ≤ w → keep_of w n f ≤ n
unfolding keep_of
keep-near w n f fits = go (leb f w) refl
  where
    go : (t : Bool) → leb f w ≡ t → cond t 0 (ceil (n * (f - w)) (f - n)) ≤ n
    go true e = omega arith
    go false e = keep-most n f w fits (leb-false f w e)

-- The rest of a job's work, rounded up, where it keeps h of its n ticks at home: at most what the far end has there, if h is at least what the
-- far end keeps.
pub rest-give : (w n f h : ℕ) → 0 < n → n ≤ w → keep_of w n f ≤ h → ceil (f * (n - h)) n ≤ give_of w n f
unfolding keep_of give_of
rest-give w n f h some fits more = go (leb f w) refl (keep-near w n f fits) more
  where
    l : ℕ
    l = ceil (n * (f - w)) (f - n)

    go : (t : Bool) → leb f w ≡ t → cond t 0 l ≤ n → cond t 0 l ≤ h → ceil (f * (n - h)) n ≤ cond t f (w - cond t 0 l)
    go true e low k = ceil-below (f * (n - h)) n f some (omega (arith, mul-le-mul_left {m = n - h} {n = n} f (omega arith)))
    go false e low k =
        let long : w < f = leb-false f w e in
        let fit = tight-fits n f w l fits long low (ceil-least (n * (f - w)) (f - n) (omega arith)) in
        ceil-below (f * (n - h)) n (w - l) some (omega (arith, fit, mul-le-mul_left {m = n - h} {n = n - l} f (omega arith)))

give-below : (w n f : ℕ) → give_of w n f ≤ w
unfolding give_of
give-below w n f = go (leb f w) refl
  where
    go : (t : Bool) → leb f w ≡ t → cond t f (w - keep_of w n f) ≤ w
    go true e = leb-true f w e
    go false e = omega arith

pub data Goes (w room all : ℕ) (r : Row) : Row → Type 0 where
  end : room + r.here ≤ all + keep_of w r.near r.far
      → Goes w room all r (put r (keep_of w r.near r.far) (give_of w r.near r.far))
  part : (h : ℕ) → keep_of w r.near r.far < h → h + all ≡ room + r.here
      → Goes w room all r (put r h (ceil (r.far * (r.near - h)) r.near))

pub moved-goes : (w room all : ℕ) (r : Row) → r.here ≤ all → Goes w room all r (moved_of w room all r)
unfolding moved_of
moved-goes w room all r among = go (leb room (all - r.here + keep_of w r.near r.far)) refl
  where
    rest : ℕ
    rest = room - (all - r.here)

    go : (t : Bool) → leb room (all - r.here + keep_of w r.near r.far) ≡ t
        → Goes w room all r
        (cond t (put r (keep_of w r.near r.far) (give_of w r.near r.far)) (put r rest (ceil (r.far * (r.near - rest)) r.near)))
    go true e = end (omega (arith, leb-true))
    go false e =
        let more : all - r.here + keep_of w r.near r.far < room = leb-false _ _ e in
        part rest (omega arith) (omega arith)

-- A row that was moved is not moved again.
pub moved-still : (w room s : ℕ) (r : Row) → (moved_of w room s r).movable ≡ false
unfolding moved_of
moved-still w room s r = either (leb room (s - r.here + keep_of w r.near r.far)) _ _ refl refl
  where
    either : (t : Bool) (x y : Row) → x.movable ≡ false → y.movable ≡ false → (cond t x y).movable ≡ false
    either true x y p q = p
    either false x y p q = q

-- So a row that is moved has at most its cost here, and at most the window there.
pub moved-fits : (w room all : ℕ) (r : Row) → Movable w r → r.here ≤ all → room < all
    → ((moved_of w room all r).here ≤ r.near) × ((moved_of w room all r).there ≤ w)
moved-fits w room all r mine among over = go (moved-goes w room all r among)
  where
    go : {v : Row} → Goes w room all r v → (v.here ≤ r.near) × (v.there ≤ w)
    go (end h) = (keep-near w r.near r.far mine.fits, give-below w r.near r.far)
    go (part h more e) = (
      omega (arith, mine.whole),
      omega (arith, rest-give w r.near r.far h mine.some mine.fits (omega arith), give-below w r.near r.far),
    )

-- So each fits two bytes, as the columns have them.
module _ (w room all near far : ℕ) (to : Ends) (few : w ≤ window_most) (asks : Asks w room all (both_row true near far))
    (is : to ≡ end_of (gone_to w room all near far)) where
  pub keep_fits : to.keep < 65536
  keep_fits = rw is (omega (arith, (moved-fits w room all _ asks.row asks.among asks.over).0, asks.row.fits))

  pub give_fits : to.give < 65536
  give_fits = rw is (omega (arith, (moved-fits w room all _ asks.row asks.among asks.over).1))
