-- The promise of `Tables::fill`, from that of `plan_columns`: the rows that are read back from its columns are the plan's. One idea: its columns are
-- long enough for every set, so that none is too short. Assumes nothing.
--   costs-same      the jobs that were written into columns get the same shares
--   tables-filled   the promise
--   plan-whole      the plan for given tables is the one for any, with refusal 7 where they have too few rows
--   jobs-are, slices-are   the counts of the plan that such columns have in front
use mathlib.Core.Path.{◌≡◌, refl, ap, subst, ◌∙◌}
use mathlib.Core.List.{List, map}
use Prim.Native.Nat.{ℕ, ◌≤◌, min}
use native.Mathlib.Omega.{arith}
use lib.ListN.{length, take}
use Rattle.std.specs.Prelude.{Result, Ok, Err}
use Rattle.std.proofs.lemmas.List.{take-take, length-take-le}
use Rattle.rows.specs.Upto.{at}
use Rattle.rows.proofs.Never.{never}
use Rattle.rows.proofs.Upto.{upto-length}
use Rattle.model.specs.Columns.{jobs_in, costs, shares_in}
use Rattle.model.specs.Limits.{jobs_most, slices_most}
use Rattle.model.specs.Packed.{slice_in, slices_in}
use Rattle.model.specs.Refusal.{Answer, given, refused, says, says_refusal, and_then}
use Rattle.model.specs.Split.{Ticks, share}
use Rattle.model.specs.Terms.{seen}
use Rattle.model.specs.declared.Kind.TheVariants.{First, Second}
use Rattle.model.specs.declared.Board.{Board}
use Rattle.model.specs.declared.Job.{Job}
use Rattle.model.specs.declared.Refusal.{Refusal}
use Rattle.model.proofs.Columns.{costs-back}
use Rattle.model.proofs.Packed.{inside-narrow}
use Rattle.split.specs.Shares.{shares_of}
use Rattle.split.proofs.Seen.{shares-read}
use Rattle.slices.specs.Table.{table_of}
use Rattle.slices.proofs.Timetabled.{table-timetable}
use Rattle.columns.specs.Plan.{Plan, plan_from, fitted, plan_of, counts_in, columns_of}
use Rattle.columns.specs.Promise.{Columned}
use Rattle.columns.specs.declared.Counts.{Counts}
use Rattle.columns.proofs.PlanLaws.{counts-are, shares-lawful, shares-fit, table-asks}
use Rattle.columns.proofs.ColumnFronts.{shares-front, slices-front}
use Rattle.columns.proofs.PlanColumns.{ticks_after, slices_after}
use Rattle.planner.specs.InColumns.{whole_plan, Filled}
use Rattle.planner.specs.declared.Tables.{Tables}

-- What was read of the jobs: the first n of them, or some of more than a set may have, which are not looked at.
module _ (board : Board) (n : ℕ) (jobs : List Job) (there : min n jobs_most ≤ length jobs) where
  abbrev pub written : List Job
  written = jobs_in n (costs First (take n (take jobs_most jobs))) (costs Second (take n (take jobs_most jobs)))

  written-seen : n ≤ jobs_most → written ≡ map seen (take n jobs)
  written-seen few =
      let js : List Job = take n jobs in
      let size : length js ≡ n = length-take-le n jobs (omega arith) in
      rw (take-take n jobs_most jobs few)
      (subst (λ (m : ℕ). jobs_in m (costs First js) (costs Second js) ≡ map seen js) size (costs-back js (omega (arith, size))))

  pub costs-same : shares_of board n written ≡ shares_of board n (take n jobs)
  costs-same = shares-read board n written (take n jobs) written-seen

-- The columns s1, s2 and rows are as long as every set needs, and hold s1', s2' and rows' after the call. The jobs ks that were written into
-- columns get the shares of the jobs js.
module _ (board : Board) (n : ℕ) (ks js : List Job) (s1 s2 rows s1' s2' rows' : List ℕ) (size : length ks ≡ n) (same : shares_of board n ks ≡ shares_of board n js)
    (full1 : length s1 ≡ jobs_most) (full2 : length s2 ≡ jobs_most) (full : length rows ≡ slices_most) where
  abbrev tables : Tables
  tables = record { first = s1'; second = s2'; slices = rows' }

  -- Columns that are long enough for every set are never too short.
  roomy : columns_of board n ks (length s1) (length s2) (length rows) ≡ whole_plan board n ks
  roomy = rw (full1, full2, full) refl

  go : (x : Answer (List Ticks)) → shares_of board n ks ≡ x → (r : Result Counts Refusal)
      → says r ≡ counts_in (and_then x (λ (ss : List Ticks). given (plan_from board ss)))
      → s1' ≡ ticks_after First s1 (and_then x (λ (ss : List Ticks). given (plan_from board ss)))
      → s2' ≡ ticks_after Second s2 (and_then x (λ (ss : List Ticks). given (plan_from board ss)))
      → rows' ≡ slices_after rows (and_then x (λ (ss : List Ticks). given (plan_from board ss))) → Filled board n ks r tables
  go (refused number place) is (Ok c) told first second slices = never (cc)
  go (refused number place) is (Err e) told first second slices =
      let refusal : says_refusal {A = Plan} e ≡ refused number place = cc in
      record { says = rw is refusal; few = tt }
  go (given ss) is (Err e) told first second slices = never (cc)
  go (given ss) is (Ok c) told first second slices =
      let counts = counts-are c (given (plan_from board ss)) told in
      let asks = table-asks board n ks size is in
      let law = shares-lawful board n ks is in
      let inside = (table-timetable board ss (shares-fit board n ks is)).inside in
      let narrow = inside-narrow board law.window-most law.first-most law.second-most (length ss) asks.few (table_of board.window ss) inside in
      let all-shares : shares_in c.jobs s1' s2' ≡ ss = rw (counts.0, first, second) (shares-front ss _ _) in
      let all-slices : slices_in c.slices rows' ≡ table_of board.window ss = rw (counts.1, slices) (slices-front (table_of board.window ss) _ narrow) in
      record {
        says = rw (is, all-shares, all-slices) refl;
        few = record { shares = omega (arith, asks.few); slices = omega (arith, asks.rows) };
      }

  pub tables-filled : (r : Result Counts Refusal) → Columned board n ks s1 s2 rows r s1' s2' rows' → Filled board n js r tables
  tables-filled r c =
      let filled = go (shares_of board n ks) refl r (c.says ∙ ap counts_in roomy) (c.first ∙ ap (ticks_after First s1) roomy)
      (c.second ∙ ap (ticks_after Second s2) roomy)
      (c.slices ∙ ap (slices_after rows) roomy) in
      record {
        says = filled.says ∙ ap (λ (x : Answer (List Ticks)). and_then x (λ (ss : List Ticks). given (plan_from board ss))) same;
        few = filled.few;
      }

pub plan-whole : (board : Board) (n : ℕ) (js : List Job) (m k : ℕ) → plan_of board n js m k ≡ and_then (whole_plan board n js) (fitted m k)
plan-whole board n js m k = go (shares_of board n js)
  where
    go : (x : Answer (List Ticks)) → and_then x (λ (ss : List Ticks). fitted m k (plan_from board ss))
        ≡ and_then (and_then x (λ (ss : List Ticks). given (plan_from board ss))) (fitted m k)
    go (given ss) = refl
    go (refused number place) = refl

module _ (c : Counts) (t : Tables) where
  abbrev pub plan_in : Plan
  plan_in = record { shares = shares_in c.jobs t.first t.second; slices = slices_in c.slices t.slices }

  pub jobs-are : length plan_in.shares ≡ c.jobs
  jobs-are = upto-length c.jobs (λ i. share (at t.first i) (at t.second i))

  pub slices-are : length plan_in.slices ≡ c.slices
  slices-are = upto-length c.slices (λ i. slice_in (at t.slices i))
