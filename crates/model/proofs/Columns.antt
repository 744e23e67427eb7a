-- A job of its two costs, by which of them are 0, and that jobs which are written into columns are read back as they are seen. Assumes nothing.
use mathlib.Core.Path.{◌≡◌, refl, ap}
use mathlib.Core.Bool.{false}
use mathlib.Core.List.{List, [], ◌∷◌, ◌++◌, map}
use Prim.Native.Nat.{ℕ, zero, suc, ◌≤◌, ◌<◌}
use native.Mathlib.Omega.{arith}
use lib.Dec.{eqb}
use lib.ListN.{length}
use Rattle.std.proofs.lemmas.Bool.Decides.{nat_tests}
use Rattle.model.specs.Columns.{job_first, job_second, job_both, job_at, jobs_in, cost_on, costs}
use Rattle.model.specs.Terms.{seen}
use Rattle.model.specs.Limits.{jobs_most}
use Rattle.model.specs.declared.Kind.TheVariants.{First, Second}
use Rattle.model.specs.declared.Job.{Job}

-- ---- a job of its costs, by which of them are 0
pub data Case (a b : ℕ) : Job → Type 0 where
  on-first : b ≡ 0 → Case a b (job_first a)
  on-second : a ≡ 0 → Case a b (job_second b)
  on_both : 0 < a → 0 < b → Case a b (job_both a b)

some : (x : ℕ) → eqb (suc x) 0 ≡ false
some x = grind (arith, nat_tests)

pub case : (a b : ℕ) → Case a b (job_at a b)
unfolding job_at
case a zero = on-first refl
case zero (suc b) = rw (some b) (on-second refl)
case (suc a) (suc b) = rw (some b, some a) (on_both (omega arith) (omega arith))

-- ---- jobs that are written into columns are read back as they are seen, whatever stands behind them
back : (js : List Job) (l1 l2 : List ℕ) → jobs_in (length js) (map (cost_on First) js ++ l1) (map (cost_on Second) js ++ l2) ≡ map seen js
back [] l1 l2 = refl
back (j ∷ js) l1 l2 = ap (λ (t : List Job). seen j ∷ t) (back js l1 l2)

pub costs-back : (js : List Job) → length js ≤ jobs_most → jobs_in (length js) (costs First js) (costs Second js) ≡ map seen js
costs-back js few = back js _ _
