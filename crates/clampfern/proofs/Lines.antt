-- The lines of a plan in columns are the plan's, and those of the plan of what was read are the answer to the text. Assumes nothing.
--   columns-planned   what the code's columns hold is the plan of the set
--   read-planned   what was read from a text into full columns is answered as the text is
--   columns-place, read-place   the place of a refusal takes one byte
use mathlib.Core.Path.{◌≡◌, refl, ap}
use mathlib.Core.List.{List, map}
use Prim.Native.Nat.{ℕ, zero, suc, ◌-◌, ◌<◌, min}
use native.Mathlib.Numerals.{unary_clauses}
use native.Mathlib.Omega.{arith}
use borrow.Author.Tests.{le-ltb}
use lib.ListN.{length, drop, replicate, length-map}
use Rattle.std.specs.Prelude.{Result, Ok, Err}
use Rattle.rows.specs.Lists.{front}
use Rattle.rows.proofs.Never.{never}
use Rattle.model.specs.Columns.{cost_on, jobs_in, shares_in as shares_from}
use Rattle.model.specs.Terms.{seen}
use Rattle.model.specs.Limits.{jobs_most, slices_most}
use Rattle.model.specs.Packed.{pack_of, slices_in as slices_from}
use Rattle.model.specs.Refusal.{Answer, given, refused, says_refusal, and_then, place_of}
use Rattle.model.specs.Split.{Ticks, ticks_on}
use Rattle.model.specs.declared.Kind.TheVariants.{First, Second}
use Rattle.model.specs.declared.Board.{Board}
use Rattle.model.specs.declared.Job.{Job}
use Rattle.model.specs.declared.Refusal.{Refusal}
use Rattle.model.proofs.Columns.{costs-back}
use Rattle.split.specs.Shares.{shares_of}
use Rattle.split.proofs.Seen.{shares-seen}
use Rattle.slices.specs.Table.{table_of}
use Rattle.columns.specs.Plan.{Plan, fitted, plan_of, columns_of, shares_given, slices_given, counts_in}
use Rattle.columns.specs.Promise.{Columned}
use Rattle.columns.specs.declared.Counts.{Counts}
use Rattle.columns.proofs.ColumnFronts.{shares-front, slices-front}
use Rattle.columns.proofs.PlanLaws.{table-asks}
use Rattle.planner.proofs.Causes.{plan-listed}
use Rattle.planner.proofs.Demands.{listed_small}
use Rattle.text.specs.Output.{plan_text}
use Rattle.reader.specs.Input.{Input, input_of, in_columns, Gives, Reads}
use Rattle.reader.specs.declared.Head.{Head}
use Rattle.clampfern.specs.Answer.{planned, lines_for, answer_text}
use Rattle.clampfern.proofs.Answers.{text-listed-small}
use Rattle.clampfern.proofs.Bounds.{small, narrow}
use Rattle.clampfern.proofs.Refusals.{text-listed}

-- Columns that are as long as every set asks, and that hold nothing yet.
abbrev zeros : List ℕ
zeros = replicate jobs_most 0

abbrev none_yet : List ℕ
none_yet = replicate slices_most 0

module _ (board : Board) (js : List Job) where
  -- The plan of a set, for tables that are long enough for every set.
  abbrev plan : Answer Plan
  plan = plan_of board (length js) js jobs_most slices_most

  -- Columns that are long enough for every set hold its plan.
  columns-plan : columns_of board (length js) js jobs_most jobs_most slices_most ≡ plan
  columns-plan = go (shares_of board (length js) js) refl
    where
      made : List Ticks → Plan
      made ss = record { shares = ss; slices = table_of board.window ss }

      go : (x : Answer (List Ticks)) → shares_of board (length js) js ≡ x
          → and_then x (λ (ss : List Ticks). given (made ss)) ≡ and_then x (λ (ss : List Ticks). fitted jobs_most slices_most (made ss))
      go (given ss) is =
          let asks = table-asks board (length js) js refl is in
          rw (le-ltb jobs_most (length ss) asks.few, le-ltb slices_most (length (table_of board.window ss)) asks.rows)
      go (refused number place) is = refl

module _ {board : Board} {n : ℕ} {js : List Job} {s1 s2 rows : List ℕ} {r : Result Counts Refusal} (c : Columned board n js zeros zeros none_yet r s1 s2 rows)
    (size : length js ≡ n) where
  same : columns_of board n js jobs_most jobs_most slices_most ≡ plan board js
  same = rw (← size) (columns-plan board js)

  pub columns-planned : {counts : Counts} → r ≡ Ok counts
      → plan_text (shares_from (min counts.jobs jobs_most) s1 s2) (slices_from (min counts.slices slices_most) rows)
      ≡ lines_for (plan_of board n js jobs_most slices_most)
  columns-planned {counts} is = rw (← size) (go (plan board js) refl (rw (is, same) at c.says) (rw same at c.first) (rw same at c.second) (rw same at c.slices))
    where
      go : (x : Answer Plan) → plan board js ≡ x → given counts ≡ counts_in x → s1 ≡ front (map (ticks_on First) (shares_given x)) zeros
          → s2 ≡ front (map (ticks_on Second) (shares_given x)) zeros → rows ≡ front (map pack_of (slices_given x)) none_yet
          → plan_text (shares_from (min counts.jobs jobs_most) s1 s2) (slices_from (min counts.slices slices_most) rows) ≡ lines_for x
      go (given p) is says first second slices =
          let counted : ◌≡◌ {A = Counts} counts (record { jobs = length p.shares; slices = length p.slices }) = cc in
          let within = small board js jobs_most slices_most is in
          let all-jobs : min counts.jobs jobs_most ≡ length p.shares = omega (arith, ap (λ (c : Counts). c.jobs) counted, within.few-jobs) in
          let all-rows : min counts.slices slices_most ≡ length p.slices = omega (arith, ap (λ (c : Counts). c.slices) counted, within.few-slices) in
          let ss-back : shares_from (min counts.jobs jobs_most) s1 s2 ≡ p.shares = rw (all-jobs, first, second) (shares-front p.shares _ _) in
          let rows_back : slices_from (min counts.slices slices_most) rows ≡ p.slices = rw (all-rows, slices) (slices-front p.slices _ (narrow board js jobs_most slices_most is)) in
          rw (ss-back, rows_back)
      go (refused number place) is says first second slices = never (cc)

  module _ {refusal : Refusal} (is : r ≡ Err refusal) where
    plan-refused : plan board js ≡ says_refusal refusal
    plan-refused = go (plan board js) (rw (is, same) at c.says)
      where
        go : (x : Answer Plan) → ◌≡◌ {A = Answer Counts} (says_refusal refusal) (counts_in x) → x ≡ says_refusal refusal
        go (given p) says = never (cc)
        go (refused number place) says = cc

    -- Its place is a job, or the count of all.
    pub columns-place : place_of refusal < 256
    columns-place = omega (arith, (listed_small (plan-listed board js jobs_most slices_most _ _ plan-refused)).3)

-- ---- what was read
plan-seen : (board : Board) (n : ℕ) (js : List Job) (m k : ℕ) → plan_of board n (map seen js) m k ≡ plan_of board n js m k
plan-seen board n js m k =
    ap (λ (x : Answer (List Ticks)). and_then x (λ (ss : List Ticks). fitted m k (record { shares = ss; slices = table_of board.window ss }))) (shares-seen board n js)

pub drop-replicate : (n m x : ℕ) → drop n (replicate m x) ≡ replicate (m - n) x
drop-replicate zero m x = simp unary_clauses
drop-replicate (suc n) zero x = let e : 0 - suc n ≡ 0 = omega arith in rw e
drop-replicate (suc n) (suc m) x = simp unary_clauses (drop-replicate n m x)

module _ (text : List ℕ) {c1 c2 : List ℕ} {r : Result Head Refusal} (reads : Reads text zeros zeros r c1 c2) where
  pub read-planned : {head : Head} → r ≡ Ok head → lines_for (plan_of head.board head.jobs (jobs_in head.jobs c1 c2) jobs_most slices_most) ≡ answer_text text
  read-planned {head} is = go (input_of text) reads
    where
      go : (x : Answer Input) → Gives x (in_columns x jobs_most jobs_most) zeros zeros r c1 c2
          → lines_for (plan_of head.board head.jobs (jobs_in head.jobs c1 c2) jobs_most slices_most) ≡ lines_for (and_then x planned)
      go (given input) g =
          let headed : ◌≡◌ {A = Head} head (record { board = input.board; jobs = length input.jobs }) = cc in
          rw (g.first, g.second, length-map input.jobs (cost_on First), length-map input.jobs (cost_on Second), drop-replicate (length input.jobs) jobs_most 0, ap (λ (h : Head). h.board) headed, ap (λ (h : Head). h.jobs) headed, costs-back input.jobs g.few, plan-seen input.board (length input.jobs) input.jobs jobs_most slices_most)
      go (refused number place) g = never (cc)

  module _ {refusal : Refusal} (is : r ≡ Err refusal) where
    read-refused : input_of text ≡ says_refusal refusal
    read-refused = go (input_of text) reads
      where
        go : (x : Answer Input) → Gives x (in_columns x jobs_most jobs_most) zeros zeros r c1 c2 → x ≡ says_refusal refusal
        go (given input) g = never (cc)
        go (refused number place) g = cc

    -- Its place is a line that is read, or the count of all jobs.
    pub read-place : place_of refusal < 256
    read-place = omega (arith, (text-listed-small (text-listed text _ _ read-refused)).place-most)
