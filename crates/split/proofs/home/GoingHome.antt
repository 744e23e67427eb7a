-- One job more goes home: its ticks fit two bytes, as the columns have them, and the sums are those of one job more. Assumes nothing.
use mathlib.Core.Path.{◌≡◌}
use mathlib.Core.List.{List}
use Prim.Native.Nat.{ℕ, ◌+◌, ◌<◌}
use native.Mathlib.Omega.{arith}
use Rattle.rows.specs.Lists.{All, sum_of}
use Rattle.rows.specs.Upto.{at}
use Rattle.rows.proofs.Upto.{upto-sum, upto-map}
use Rattle.model.specs.Columns.{job_at, jobs_in}
use Rattle.model.specs.Limits.{window_most}
use Rattle.model.specs.declared.Kind.TheVariants.{First}
use Rattle.model.specs.declared.Job.{Job}
use Rattle.legal.specs.Lawful.{LegalJob}
use Rattle.split.specs.Home.{at_home}
use Rattle.split.specs.Columns.{end_of, home_at}
use Rattle.split.specs.Shares.{home_rows}
use Rattle.split.specs.Rows.{Row}
use Rattle.split.specs.declared.Ends.{Ends}
use Rattle.split.proofs.home.Homes.{homes-fit}

module _ (n : ℕ) (c1 c2 : List ℕ) (legal : All (LegalJob window_most) (jobs_in n c1 c2)) (i : ℕ) (l : i < n) (to : Ends)
    (is : to ≡ end_of (home_at First c1 c2 i)) where
  pub keep_fits : to.keep < 65536
  keep_fits = rw is (omega (arith, homes-fit window_most n c1 c2 legal i l))

  pub give_fits : to.give < 65536
  give_fits = rw is (omega (arith, homes-fit window_most n c1 c2 legal i l))

-- A sum over the jobs at home, of one job more.
pub home-more : (g : Row → ℕ) (c1 c2 : List ℕ) (i : ℕ) → sum_of g (home_rows First (jobs_in (i + 1) c1 c2))
    ≡ sum_of g (home_rows First (jobs_in i c1 c2)) + g (home_at First c1 c2 i)
home-more g c1 c2 i =
    let job : ℕ → Job = λ k. job_at (at c1 k) (at c2 k) in
    rw (upto-map (at_home First) (i + 1) job, upto-map (at_home First) i job) (upto-sum g i (home_at First c1 c2))
