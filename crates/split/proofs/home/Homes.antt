-- The jobs at home as rows: legal jobs are ready for the steps and fit the window, and what one kind sees here the other sees there.
-- Assumes nothing.
use mathlib.Core.Path.{◌≡◌, refl}
use mathlib.Core.Bool.{Bool, true, false, false≢true}
use mathlib.Core.List.{List, [], ◌∷◌}
use Prim.Native.Nat.{ℕ, zero, suc, ◌≤◌, ◌<◌}
use native.Mathlib.Nat.{not-suc-le-zero, le_of_suc-le-suc}
use native.Mathlib.Omega.{arith}
use borrow.Author.Tests.{leb-true, leb-false, ltb-true, le-ltb, lt-ltb}
use lib.Dec.{leb, ltb}
use Rattle.rows.specs.Upto.{at}
use Rattle.rows.specs.Lists.{All}
use Rattle.rows.proofs.Upto.{upto-at, upto-length}
use Rattle.rows.proofs.Lists.{all-at}
use Rattle.model.specs.Columns.{job_at, jobs_in}
use Rattle.model.specs.declared.Kind.{Kind}
use Rattle.model.specs.declared.Kind.TheVariants.{First, Second}
use Rattle.model.specs.declared.Job.{Job}
use Rattle.model.specs.declared.Job.TheVariants.{Both, OnlyFirst, OnlySecond}
use Rattle.legal.specs.Lawful.{LegalJob}
use Rattle.split.specs.Home.{at_home, both_row}
use Rattle.split.specs.Steps.{there_sum}
use Rattle.split.specs.Columns.{Movable, Ready, home_at}
use Rattle.split.specs.Shares.{home_rows, home_ticks}

both-movable : (w n f : ℕ) (home : Bool) → 0 < n → (home ≡ true → (n ≤ f) × (n ≤ w)) → (both_row home n f).movable ≡ true
    → Movable w (both_row home n f)
both-movable w n f true pos h m = record { some = pos; least = (h refl).0; fits = (h refl).1; whole = refl; bare = refl }
both-movable w n f false pos h m = absurd (false≢true m)

legal-movable : (k : Kind) (w : ℕ) (j : Job) → LegalJob w j → (at_home k j).movable ≡ true → Movable w (at_home k j)
unfolding at_home
legal-movable First w (Both c1 c2) legal m =
    both-movable w c1.0 c2.0 (leb c1.0 c2.0) legal.0
    (λ e. let h = leb-true c1.0 c2.0 e in (omega arith, omega arith)) m
legal-movable Second w (Both c1 c2) legal m =
    both-movable w c2.0 c1.0 (ltb c2.0 c1.0) legal.1
    (λ e. let h = ltb-true c2.0 c1.0 e in (omega arith, omega arith)) m
legal-movable First w (OnlyFirst c1) legal m = absurd (false≢true m)
legal-movable Second w (OnlyFirst c1) legal m = absurd (false≢true m)
legal-movable First w (OnlySecond c2) legal m = absurd (false≢true m)
legal-movable Second w (OnlySecond c2) legal m = absurd (false≢true m)

pub home-ready : (k : Kind) (w : ℕ) (js : List Job) → All (LegalJob w) js → Ready w (home_rows k js)
home-ready k w [] legal i l m = absurd (not-suc-le-zero l)
home-ready k w (j ∷ js) legal zero l m = legal-movable k w j legal.0 m
home-ready k w (j ∷ js) legal (suc i) l m = home-ready k w js legal.1 i (le_of_suc-le-suc l) m

-- A legal job at home has at most the window on each kind, and is legal for a longer window too.
home_fits : (w : ℕ) (j : Job) → LegalJob w j → ((at_home First j).here ≤ w) × ((at_home First j).there ≤ w)
unfolding at_home
home_fits w (Both c1 c2) legal = go (leb c1.0 c2.0) refl
  where
    go : (t : Bool) → leb c1.0 c2.0 ≡ t → ((both_row t c1.0 c2.0).here ≤ w) × ((both_row t c1.0 c2.0).there ≤ w)
    go true e = let h = leb-true c1.0 c2.0 e in (omega arith, omega arith)
    go false e = let h = leb-false c1.0 c2.0 e in (omega arith, omega arith)
home_fits w (OnlyFirst c1) legal = (legal.1, omega arith)
home_fits w (OnlySecond c2) legal = (omega arith, legal.1)

pub homes-fit : (w n : ℕ) (c1 c2 : List ℕ) → All (LegalJob w) (jobs_in n c1 c2) → (i : ℕ) → i < n
    → ((home_at First c1 c2 i).here ≤ w) × ((home_at First c1 c2 i).there ≤ w)
homes-fit w n c1 c2 legal i l =
    let js : ℕ → Job = λ k. job_at (at c1 k) (at c2 k) in
    home_fits w (js i) (rw (upto-at n js (js i) i l) at (all-at (LegalJob w) (js i) (jobs_in n c1 c2) i (omega (arith, upto-length n js)) legal))

home-sides : (j : Job) → ((at_home First j).there ≡ (at_home Second j).here) × ((at_home Second j).there ≡ (at_home First j).here)
unfolding at_home
home-sides (Both c1 c2) = go (leb c1.0 c2.0) refl
  where
    go : (t : Bool) → leb c1.0 c2.0 ≡ t
        → ((both_row t c1.0 c2.0).there ≡ (both_row (ltb c2.0 c1.0) c2.0 c1.0).here)
        × ((both_row (ltb c2.0 c1.0) c2.0 c1.0).there ≡ (both_row t c1.0 c2.0).here)
    go true e = rw (le-ltb c2.0 c1.0 (leb-true _ _ e)) (refl, refl)
    go false e = rw (lt-ltb c2.0 c1.0 (leb-false _ _ e)) (refl, refl)
home-sides (OnlyFirst c1) = (refl, refl)
home-sides (OnlySecond c2) = (refl, refl)

pub home-there : (js : List Job) → there_sum (home_rows First js) ≡ home_ticks Second js
home-there [] = refl
home-there (j ∷ js) = omega (arith, (home-sides j).0, home-there js)

pub home_here : (js : List Job) → there_sum (home_rows Second js) ≡ home_ticks First js
home_here [] = refl
home_here (j ∷ js) = omega (arith, (home-sides j).1, home_here js)
