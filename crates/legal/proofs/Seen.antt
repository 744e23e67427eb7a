-- A job that is written as two costs is, to the checks, the job itself: the one that two costs cannot say, on both kinds with a cost of 0, is
-- refused at the same place as what they say instead, and every other is what they say. Jobs past the most of a set are not looked at.
--   legal-read   the checks answer the same of jobs that were written into columns as of the jobs, also where too many are asked for
--   read_same    and jobs that they pass are the ones that were written
--   costs-read   what the columns of the first n of 64 jobs say
-- Assumes nothing.
use mathlib.Core.Path.{◌≡◌, refl, sym, ap, ◌∙◌}
use mathlib.Core.List.{List, [], ◌∷◌, map}
use Prim.Native.Nat.{ℕ, ◌≤◌}
use native.Mathlib.Omega.{arith}
use lib.ListN.{length, take, length-map}
use lib.Seq.{length-take-le}
use Rattle.std.proofs.lemmas.Bool.Decides.{nat_tests}
use Rattle.rows.specs.Lists.{All, lowest}
use Rattle.rows.proofs.Lowest.{lowest-map}
use Rattle.model.specs.Columns.{job_at, jobs_in, costs}
use Rattle.model.specs.Terms.{seen}
use Rattle.model.specs.Limits.{jobs_most}
use Rattle.model.specs.Refusal.{Answer, given}
use Rattle.model.specs.declared.Board.{Board}
use Rattle.model.specs.declared.Kind.TheVariants.{First, Second}
use Rattle.model.specs.declared.Job.{Job}
use Rattle.model.specs.declared.Job.TheVariants.{Both, OnlyFirst, OnlySecond}
use Rattle.model.proofs.Columns.{costs-back}
use Rattle.legal.specs.Lawful.{LegalJob}
use Rattle.legal.specs.Legal.{bad_cost, too_long, legal_of}
use Rattle.legal.proofs.CheckByCheck.{Ran, window-out, cores-out, jobs-many, cost-bad, job-long, all-passed, legal-ran, ran-legal}
use Rattle.legal.proofs.Lawful.{legal-lawful}

-- each check says of what is read back what it says of the job
bad-seen : (j : Job) → bad_cost (seen j) ≡ bad_cost j
unfolding job_at
bad-seen (Both a b) = grind (arith, nat_tests)
bad-seen (OnlyFirst a) = refl
bad-seen (OnlySecond b) = grind (arith, nat_tests)

long-seen : (w : ℕ) (j : Job) → too_long w (seen j) ≡ too_long w j
unfolding job_at
long-seen w (Both a b) = grind (arith, nat_tests)
long-seen w (OnlyFirst a) = refl
long-seen w (OnlySecond b) = grind (arith, nat_tests)

-- a job with no cost of 0, as a legal one, is what its costs are
seen-legal : (w : ℕ) (j : Job) → LegalJob w j → seen j ≡ j
unfolding job_at
seen-legal w (Both a b) l = grind (arith, nat_tests)
seen-legal w (OnlyFirst a) l = refl
seen-legal w (OnlySecond b) l = grind (arith, nat_tests)

all_same : (w : ℕ) (js : List Job) → All (LegalJob w) js → map seen js ≡ js
all_same w [] l = refl
all_same w (j ∷ js) l = rw (seen-legal w j l.0, all_same w js l.1)

-- ---- all five checks, of jobs and of what was written for them, which has to be looked at only where a set may have so many
module _ (board : Board) (n : ℕ) (written js : List Job) (are : n ≤ jobs_most → written ≡ map seen js) where
  same_size : n ≤ jobs_most → length js ≡ length written
  same_size few = rw (are few) (sym (length-map js seen))

  same-bad : n ≤ jobs_most → lowest bad_cost js ≡ lowest bad_cost written
  same-bad few = rw (are few) (sym (lowest-map bad_cost seen bad-seen js))

  same-long : n ≤ jobs_most → lowest (too_long board.window) js ≡ lowest (too_long board.window) written
  same-long few = rw (are few) (sym (lowest-map (too_long board.window) seen (long-seen board.window) js))

  ran-again : {answer : Answer (Unit {0})} → Ran board n js answer → Ran board n written answer
  ran-again (window-out off) = window-out off
  ran-again (cores-out window off) = cores-out window off
  ran-again (jobs-many p many) = jobs-many p many
  ran-again (cost-bad job p few is there) = cost-bad job p few (is ∙ same-bad few) (omega (arith, same_size few))
  ran-again (job-long job p few costs is there) =
      job-long job p few (omega (arith, same_size few, same-bad few)) (is ∙ same-long few) (omega (arith, same_size few))
  ran-again (all-passed p few costs fit) =
      all-passed p few (omega (arith, same_size few, same-bad few)) (omega (arith, same_size few, same-long few))

  pub legal-read : legal_of board n written ≡ legal_of board n js
  legal-read = sym (ran-legal board n written (ran-again (legal-ran board n js)))

  pub read_same : legal_of board n js ≡ given tt → written ≡ js
  read_same e =
      let law = legal-lawful board n js e in
      are law.few ∙ all_same board.window js law.jobs

pub costs-read : (n : ℕ) (jobs : List Job) → length jobs ≡ jobs_most → n ≤ jobs_most
    → jobs_in n (costs First (take n jobs)) (costs Second (take n jobs)) ≡ map seen (take n jobs)
costs-read n jobs full few =
    let size : length (take n jobs) ≡ n = length-take-le n jobs (omega arith) in
    ap (λ (k : ℕ). jobs_in k (costs First (take n jobs)) (costs Second (take n jobs))) (sym size) ∙ costs-back (take n jobs) (omega arith)
