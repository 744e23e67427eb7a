-- How a job and its row stand while the steps run, at the prices p and q: those of the row that was moved last, 1 and 1 before. A row
-- that waits is at home, and cheaper there; any other is worth its ticks now and at all later prices, 1 and 0 too. So a price change
-- asks nothing of a row but that, if it waits, it is still cheaper at home (`stand-later`). Assumes nothing.
use mathlib.Core.Path.{◌≡◌, refl, sym, ◌∙◌}
use mathlib.Core.Bool.{Bool, true, false, false≢true, cond}
use mathlib.Core.List.{List, [], ◌∷◌}
use Prim.Native.Nat.{ℕ, zero, suc, ◌+◌, ◌*◌, ◌-◌, ◌≤◌, ◌<◌}
use native.Mathlib.Nat.{mul-le-mul, mul-le-mul_left}
use native.Mathlib.Omega.{arith}
use borrow.Author.Tests.{leb-true, leb-false, ltb-true, ltb-false, le-leb, lt-ltb}
use lib.Dec.{leb, ltb}
use Rattle.rows.specs.Lists.{All}
use Rattle.model.specs.declared.Kind.{Kind}
use Rattle.model.specs.declared.Kind.TheVariants.{First, Second}
use Rattle.model.specs.declared.Job.{Job}
use Rattle.model.specs.declared.Job.TheVariants.{Both, OnlyFirst, OnlySecond}
use Rattle.legal.specs.Lawful.{LegalJob}
use Rattle.split.specs.Home.{ceil, both_row, only_row, at_home, keep_of, give_of}
use Rattle.split.specs.Steps.{put}
use Rattle.split.specs.Columns.{Movable}
use Rattle.split.specs.Shares.{home_rows}
use Rattle.split.specs.Rows.{Row}
use Rattle.split.proofs.Demands.View.{View, both, only, away, see, DoneSeen}
use Rattle.split.proofs.Demands.Price.{Worth, Each}
use Rattle.split.proofs.Demands.Bounds.{ratio-trans, home-bounds, far-bounds}
use Rattle.split.proofs.Demands.Unevens.{Even}
use Rattle.split.proofs.steps.Number.{ceil-most, ceil-below, ceil-least, keep-most, far-whole, near_fits, tight-fits, part-whole}

-- A row that can be moved.
pub record Waits (w p q : ℕ) (v : View) (r : Row) : Type 0 where
  pub row : Movable w r
  pub is : v ≡ both r.near r.far
  pub cheap : p * r.near ≤ q * r.far

pub record Stand (w p q : ℕ) (v : View) (r : Row) : Type 0 where
  pub done : DoneSeen w 1 v r.here r.there
  pub even : Even w r
  pub waits : r.movable ≡ true → Waits w p q v r
  pub worth : (p' q' : ℕ) → q' ≤ p' → p * q' ≤ q * p' → (r.movable ≡ true → p' * r.near ≤ q' * r.far) → Worth w p' q' v r.here r.there

pub stand-later : (w p q p' q' : ℕ) (v : View) (r : Row) → 0 < q' → p * q' ≤ q * p'
    → (r.movable ≡ true → p' * r.near ≤ q' * r.far) → Stand w p q v r → Stand w p' q' v r
stand-later w p q p' q' v r pos later cheap s =
    record {
      done = s.done;
      even = s.even;
      waits = λ m. record { row = (s.waits m).row; is = (s.waits m).is; cheap = cheap m };
      worth = λ p'' q'' dear h. s.worth p'' q'' dear (ratio-trans p q p' q' p'' q'' pos later h);
    }

-- A row that does not wait.
rests : (w p q : ℕ) (v : View) (r : Row) → r.movable ≡ false → DoneSeen w 1 v r.here r.there → Even w r
    → ((p' q' : ℕ) → q' ≤ p' → p * q' ≤ q * p' → Worth w p' q' v r.here r.there) → Stand w p q v r
rests w p q v r still does even worth =
    record {
      done = does;
      even = even;
      waits = λ m. absurd (false≢true (sym still ∙ m));
      worth = λ p' q' dear later _. worth p' q' dear later;
    }

-- ---- at home
module _ (w : ℕ) where
  both-stands : (c d : ℕ) → 0 < c → 0 < d → (t : Bool) → (t ≡ true → (c ≤ d) × (c ≤ w)) → (t ≡ false → (d ≤ c) × (d ≤ w))
      → Stand w 1 1 (both c d) (both_row t c d)
  both-stands c d cpos dpos true h k =
      let m = h refl in
      record {
        done = omega arith;
        even = λ a b. absurd (omega arith);
        waits = λ _. record {
          row = record { some = cpos; least = m.0; fits = m.1; whole = refl; bare = refl };
          is = refl;
          cheap = omega arith;
        };
        worth = λ p q dear later cheap n x y z. omega (arith, home-bounds p q c d n x y dpos (cheap refl) z.0);
      }
  both-stands c d cpos dpos false h k =
      let m = k refl in
      rests w 1 1 (both c d) (both_row false c d) refl (omega arith) (λ a b. absurd (omega arith))
      (λ p q dear later n x y z. omega (arith, home-bounds q p d c n y x cpos (mul-le-mul dear m.0) (omega (arith, z.0))))

  only-stands : (c : ℕ) → c ≤ w → Stand w 1 1 (only c) (only_row true c)
  only-stands c h =
      rests w 1 1 (only c) (only_row true c) refl (omega arith) (λ a b. absurd (omega arith))
      (λ p q dear later n x y z. omega (arith, mul-le-mul_left p z.0))

  away-stands : (d : ℕ) → d ≤ w → Stand w 1 1 (away d) (only_row false d)
  away-stands d h =
      rests w 1 1 (away d) (only_row false d) refl (omega arith) (λ a b. absurd (omega arith))
      (λ p q dear later n x y z. omega (arith, mul-le-mul_left q z.0))

  home-stands : (k : Kind) (j : Job) → LegalJob w j → Stand w 1 1 (see k j) (at_home k j)
  unfolding at_home
  home-stands First (Both c1 c2) h =
      both-stands c1.0 c2.0 h.0 h.1 (leb c1.0 c2.0) (λ e. omega (arith, leb-true)) (λ e. omega (arith, leb-false))
  home-stands Second (Both c1 c2) h =
      both-stands c2.0 c1.0 h.1 h.0 (ltb c2.0 c1.0) (λ e. omega (arith, ltb-true)) (λ e. omega (arith, ltb-false))
  home-stands First (OnlyFirst c1) h = only-stands c1.0 h.1
  home-stands Second (OnlyFirst c1) h = away-stands c1.0 h.1
  home-stands First (OnlySecond c2) h = away-stands c2.0 h.1
  home-stands Second (OnlySecond c2) h = only-stands c2.0 h.1

  pub homes-stand : (k : Kind) (js : List Job) → All (LegalJob w) js → Each (Stand w 1 1) k js (home_rows k js)
  homes-stand k [] legal i h = absurd (omega arith)
  homes-stand k (j ∷ js) legal zero h = home-stands k j legal.0
  homes-stand k (j ∷ js) legal (suc i) h = homes-stand k js legal.1 i (omega arith)

-- ---- the far end of a job that costs c here and d there: the ticks here and there
data End (w c d : ℕ) : ℕ → ℕ → Type 0 where
  gone : d ≤ w → End w c d 0 d
  tight : (l : ℕ) → w < d → l ≤ w → c * (d - w) ≤ (d - c) * l → (d - c) * l ≤ c * (d - w) + (d - c) → End w c d l (w - l)

far-end : (w c d : ℕ) → c ≤ w → End w c d (keep_of w c d) (give_of w c d)
unfolding keep_of give_of
far-end w c d fits = go (leb d w) refl
  where
    stays : ℕ
    stays = ceil (c * (d - w)) (d - c)

    go : (t : Bool) → leb d w ≡ t → End w c d (cond t 0 stays) (cond t d (w - cond t 0 stays))
    go true e = gone (leb-true d w e)
    go false e =
        let wd : w < d = leb-false d w e in
        tight stays wd (omega (arith, keep-most c d w fits wd))
        (ceil-least (c * (d - w)) (d - c) (omega arith))
        (omega (arith, ceil-most (c * (d - w)) (d - c)))

module _ (w : ℕ) (r : Row) (m : Movable w r) where
  end-stands : {l g : ℕ} → End w r.near r.far l g → Stand w r.far r.near (both r.near r.far) (put r l g)
  end-stands (gone dw) =
      rests w r.far r.near (both r.near r.far) (put r 0 r.far) refl (omega arith) (λ a b. absurd (omega arith))
      (λ p q dear later n x y z. omega (arith, home-bounds q p r.far r.near n y x m.some (omega arith) (omega (arith, z.0))))
  end-stands (tight l wd lw whole up) =
      rests w r.far r.near (both r.near r.far) (put r l (w - l)) refl
      (omega (arith, far-whole r.near r.far w l m.fits wd lw whole)) (λ a b. omega arith)
      (λ p q dear later n x y z.
      rw (le-leb r.near w m.fits, lt-ltb w r.far wd)
      (omega (arith, far-bounds p q r.near r.far w l n x y m.fits wd lw up dear (omega arith) z.0 z.1)))

  pub far-stands : Stand w r.far r.near (both r.near r.far) (put r (keep_of w r.near r.far) (give_of w r.near r.far))
  far-stands = end-stands (far-end w r.near r.far m.fits)

  -- Between its ends, with t ticks here.
  pub part-does : (t : ℕ) → t ≤ r.near → keep_of w r.near r.far < t
      → DoneSeen w 1 (both r.near r.far) t (ceil (r.far * (r.near - t)) r.near)
  part-does t most above = (
    omega (arith, part-whole r.near r.far t m.some most),
    omega (arith, ceil-below (r.far * (r.near - t)) r.near (w - t) m.some (go (far-end w r.near r.far m.fits) above)),
  )
    where
      go : {l g : ℕ} → End w r.near r.far l g → l < t → r.far * (r.near - t) ≤ r.near * (w - t)
      go (gone dw) h = near_fits r.near r.far w t m.least dw most
      go (tight l wd lw whole up) h =
          tight-fits r.near r.far w t m.fits wd most (omega (arith, mul-le-mul_left (r.far - r.near) h))
