-- The jobs at home as the columns of the kind that is looked from, and the answer by which kinds are over. Assumes nothing.
use mathlib.Core.Path.{◌≡◌, refl, sym, ap, ◌∙◌}
use mathlib.Core.Bool.{Bool, true, false, cond}
use mathlib.Core.List.{List, map}
use Prim.Native.Nat.{ℕ, ◌≤◌, ◌<◌}
use native.Mathlib.Omega.{arith}
use borrow.Author.Tests.{leb-true, leb-false, ne_eqb, le-ltb, lt-ltb}
use lib.Dec.{leb, ltb, eqb}
use lib.ListN.{length}
use Rattle.std.specs.Prelude.{Result}
use Rattle.rows.specs.Lists.{All}
use Rattle.rows.specs.Upto.{upto, at}
use Rattle.rows.proofs.Upto.{upto-length, upto-at, upto-same, upto-map}
use Rattle.model.specs.Board.{on}
use Rattle.model.specs.Refusal.{given, says_refusal}
use Rattle.model.specs.Columns.{job_at, jobs_in, shares_in}
use Rattle.model.specs.declared.Kind.{Kind}
use Rattle.model.specs.declared.Kind.TheVariants.{First, Second}
use Rattle.model.specs.declared.Job.{Job}
use Rattle.model.specs.declared.Refusal.{Refusal}
use Rattle.model.specs.declared.Refusal.TheVariants.{BothOver}
use Rattle.model.proofs.Columns.{Case, on-first, on-second, on_both, case}
use Rattle.legal.specs.Lawful.{LegalJob}
use Rattle.split.specs.Home.{both_row, at_home}
use Rattle.split.specs.Steps.{steps_of}
use Rattle.split.specs.Shares.{share_of, shares_seen, home_rows, home_ticks, settled, relieved, split_of}
use Rattle.split.specs.Columns.{row_at, row_in, rows_in, home_at, bare, mark_of, marks_in, marked, says_ended, GoneHome, Ready, Summed}
use Rattle.split.specs.Rows.{Row}
use Rattle.split.specs.declared.Sums.{Sums}
use Rattle.split.proofs.home.Homes.{home-ready, home-there, home_here}
use Rattle.split.proofs.Answers.{split-both, split-first, split-second, split-home}
use Rattle.split.proofs.steps.Bare.{rows-bare, bare-here, bare-there, alike-steps, ready-bare, settled-alike}

-- ---- a job at home, as what the columns have of it
mark-zero : (b : ℕ) → mark_of b 0 ≡ 0
mark-zero b = go (eqb b 0)
  where
    go : (t : Bool) → cond {A = ℕ} t 0 0 ≡ 0
    go true = refl
    go false = refl

-- Its row from a kind, by its ticks as the first kind sees them.
row_seen : (k : Kind) (a b : ℕ) (j : Job) → Case a b j → row_at (mark_of (on k b a) (on k (at_home First j).here (at_home First j).there)) (on k b a)
    (on k (at_home First j).here (at_home First j).there) (on k (at_home First j).there (at_home First j).here) ≡ bare (at_home k j)
unfolding at_home
row_seen First a b j (on-first z) = rw z
row_seen Second a b j (on-first z) = rw (mark-zero a)
row_seen First a b j (on-second z) = rw (mark-zero b)
row_seen Second a b j (on-second z) = rw z
row_seen First a b j (on_both pa pb) = go (leb a b)
  where
    go : (t : Bool) → row_at (mark_of b (both_row t a b).here) b (both_row t a b).here (both_row t a b).there ≡ bare (both_row t a b)
    go true = rw (ne_eqb b 0 (λ z. omega arith), lt-ltb 0 a pa)
    go false = rw (mark-zero b)
row_seen Second a b j (on_both pa pb) = go (leb a b) refl
  where
    go : (t : Bool) → leb a b ≡ t → row_at (mark_of a (both_row t a b).there) a (both_row t a b).there (both_row t a b).here ≡ bare (both_row (ltb b a) b a)
    go true e = rw (le-ltb b a (leb-true a b e), mark-zero a)
    go false e = rw (lt-ltb b a (leb-false a b e), ne_eqb a 0 (λ z. omega arith), lt-ltb 0 b pb)

-- ---- the jobs at home
module _ {c1 c2 s1 s2 : List ℕ} {r : Sums} (size : length c2 ≡ length c1) (gone : GoneHome c1 c2 s1 s2 r) where
  abbrev n : ℕ
  n = length c1

  abbrev job : ℕ → Job
  job i = job_at (at c1 i) (at c2 i)

  abbrev js : List Job
  js = jobs_in n c1 c2

  -- The ticks of the jobs at home in each column.
  first-at : (i : ℕ) → i < n → at s1 i ≡ (home_at First c1 c2 i).here
  first-at i l = rw gone.first (upto-at n (λ k. (home_at First c1 c2 k).here) 0 i l)

  second_at : (i : ℕ) → i < n → at s2 i ≡ (home_at First c1 c2 i).there
  second_at i l = rw gone.second (upto-at n (λ k. (home_at First c1 c2 k).there) 0 i l)

  -- The rows of the columns, seen from a kind.
  home-rows : (k : Kind) → rows_in n (marks_in n (on k c2 c1) (on k s1 s2)) (on k c2 c1) (on k s1 s2) (on k s2 s1) ≡ map bare (home_rows k js)
  home-rows k = upto-same n _ _ (row k) ∙ sym (upto-map bare n (home_at k c1 c2)) ∙ ap (map bare) (sym (upto-map (at_home k) n job))
    where
      row : (h : Kind) (i : ℕ) → i < n →
          row_in (marks_in n (on h c2 c1) (on h s1 s2)) (on h c2 c1) (on h s1 s2) (on h s2 s1) i ≡ bare (home_at h c1 c2 i)
      row First i l =
          rw (upto-at n (λ j. mark_of (at c2 j) (at s1 j)) 0 i l, first-at i l, second_at i l) (row_seen First (at c1 i) (at c2 i) _ (case (at c1 i) (at c2 i)))
      row Second i l =
          rw (upto-at n (λ j. mark_of (at c1 j) (at s2 j)) 0 i l, first-at i l, second_at i l) (row_seen Second (at c1 i) (at c2 i) _ (case (at c1 i) (at c2 i)))

  marked-first : marked c2 s1 s2 ≡ map bare (home_rows First js)
  marked-first = rw size (home-rows First)

  home-shares : shares_in n s1 s2 ≡ shares_seen First (home_rows First js)
  home-shares =
      upto-same n _ _ (λ i l. rw (first-at i l, second_at i l)) ∙ sym (upto-map (share_of First) n (home_at First c1 c2))
      ∙ ap (shares_seen First) (sym (upto-map (at_home First) n job))

  -- The sums are the ticks at home on each kind.
  home-first : r.here ≡ home_ticks First js
  home-first = gone.sums.here

  home-second : r.there ≡ home_ticks Second js
  home-second = gone.sums.there ∙ home-there js

  -- What the steps ask, where a kind is over.
  module _ (w : ℕ) (legal : All (LegalJob w) js) where
    pub asks_first : Ready w (marked c2 s1 s2) × Summed (marked c2 s1 s2) r
    asks_first = rw marked-first (
      ready-bare w (home_rows First js) (home-ready First w js legal),
      record {
        here = home-first ∙ sym (bare-here (home_rows First js));
        there = gone.sums.there ∙ sym (bare-there (home_rows First js));
        small-here = gone.sums.small-here;
        small-there = gone.sums.small-there;
      },
    )

    pub asks_second : Ready w (marked c1 s2 s1) × Summed (marked c1 s2 s1) (record { here = r.there; there = r.here })
    asks_second = rw (home-rows Second) (
      ready-bare w (home_rows Second js) (home-ready Second w js legal),
      record {
        here = home-second ∙ sym (bare-here (home_rows Second js));
        there = home-first ∙ sym (home_here js) ∙ sym (bare-there (home_rows Second js));
        small-here = gone.sums.small-there;
        small-there = gone.sums.small-here;
      },
    )

  -- The answer, by which kinds are over.
  relieved-home : (k : Kind) (w room away : ℕ) (rows : List Row) → map bare rows ≡ rows → rows ≡ map bare (home_rows k js)
      → settled k room away (steps_of n w room rows) ≡ relieved k w room away js
  relieved-home k w room away rows b e =
      rw (upto-length n job) (settled-alike k room away _ _ (alike-steps n w room rows (home_rows k js) (b ∙ e)))

  module _ (w room1 room2 : ℕ) where
    pub both_over : room1 < r.here → room2 < r.there → says_refusal BothOver ≡ split_of w room1 room2 js
    both_over h t = split-both w room1 room2 js (omega (arith, home-first)) (omega (arith, home-second))

    pub first_over : room1 < r.here → r.there ≤ room2 → (s1' s2' : List ℕ) (ended : Result (Unit {0}) Refusal)
        → says_ended ended (length c2) s1' s2' ≡ settled First room1 room2 (steps_of (length c2) w room1 (marked c2 s1 s2))
        → says_ended ended n s1' s2' ≡ split_of w room1 room2 js
    first_over h t s1' s2' ended x =
        rw size at x ∙ relieved-home First w room1 room2 _ (rows-bare n (marks_in n c2 s1) c2 s1 s2) (home-rows First)
        ∙ split-first w room1 room2 js (omega (arith, home-first)) (omega (arith, home-second))

    pub second_over : r.here ≤ room1 → room2 < r.there → (s1' s2' : List ℕ) (ended : Result (Unit {0}) Refusal)
        → says_ended ended n s1' s2' ≡ settled Second room2 room1 (steps_of n w room2 (marked c1 s2 s1))
        → says_ended ended n s1' s2' ≡ split_of w room1 room2 js
    second_over h t s1' s2' ended x =
        x ∙ relieved-home Second w room2 room1 _ (rows-bare n (marks_in n c1 s2) c1 s2 s1) (home-rows Second)
        ∙ split-second w room1 room2 js (omega (arith, home-first)) (omega (arith, home-second))

    pub none_over : r.here ≤ room1 → r.there ≤ room2 → given (shares_in n s1 s2) ≡ split_of w room1 room2 js
    none_over h t = ap given home-shares ∙ split-home w room1 room2 js (omega (arith, home-first)) (omega (arith, home-second))
