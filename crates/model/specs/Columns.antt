-- Columns of numbers, in which the calls between our crates pass jobs and shares, and the jobs and shares that they are.
--   job_first    the job of a cost on the first kind alone
--   job_second   the job of a cost on the second kind alone
--   job_both     the job of a cost on each kind
--   job_at       the job of its two costs, with 0 where a kind is not allowed
--   jobs_in      the jobs of two columns of costs
--   cost_on      what a column has of a job: its cost on the kind, and 0 where it is not allowed there or where its other cost is 0
--   costs        the column of a kind: a cost for each job, and 0 behind
--   shares_in    the shares that two columns of ticks are
-- A job on both kinds that has a cost of 0 is none that two costs can say: it is written as 0 and 0, the job on the first kind that costs
-- nothing. Refusal 4 refuses both at the same place, and every other job is the one that its columns say (crate legal, proofs/Seen.antt).
-- Assumes nothing.
use Rattle.std.specs.Prelude.{cond, List, ◌++◌, map, ℕ, ◌-◌, eqb, length, replicate}
use Rattle.rows.specs.Upto.{upto, at}
use Rattle.model.specs.Limits.{jobs_most}
use Rattle.model.specs.Split.{Ticks, share}
use Rattle.model.specs.declared.Kind.{Kind}
use Rattle.model.specs.declared.Kind.TheVariants.{First, Second}
use Rattle.model.specs.declared.Job.{Job}
use Rattle.model.specs.declared.Job.TheVariants.{Both, OnlyFirst, OnlySecond}

abbrev pub job_first : ℕ → Job
job_first a = OnlyFirst (record { 0 = a })

abbrev pub job_second : ℕ → Job
job_second b = OnlySecond (record { 0 = b })

abbrev pub job_both : ℕ → ℕ → Job
job_both a b = Both (record { 0 = a }) (record { 0 = b })

unfoldable pub job_at : (c1 c2 : ℕ) → Job
job_at a b = cond (eqb b 0) (job_first a) (cond (eqb a 0) (job_second b) (job_both a b))

abbrev pub jobs_in : ℕ → (c1 c2 : List ℕ) → List Job
jobs_in n c1 c2 = upto n (λ i. job_at (at c1 i) (at c2 i))

abbrev pub cost_on : Kind → Job → ℕ
cost_on First (Both a b) = cond (eqb b.0 0) 0 a.0
cost_on Second (Both a b) = cond (eqb a.0 0) 0 b.0
cost_on First (OnlyFirst a) = a.0
cost_on Second (OnlyFirst a) = 0
cost_on First (OnlySecond b) = 0
cost_on Second (OnlySecond b) = b.0

-- At most jobs_most jobs stand in a column: who fills one has refused more.
abbrev pub costs : Kind → List Job → List ℕ
costs k js = map (cost_on k) js ++ replicate (jobs_most - length js) 0

abbrev pub shares_in : ℕ → (s1 s2 : List ℕ) → List Ticks
shares_in n s1 s2 = upto n (λ i. share (at s1 i) (at s2 i))
