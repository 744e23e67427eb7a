-- Internal: no public promise cites this. A plan in columns that are long enough for every set, from which `plan` writes rows into lent tables and
-- `moves` counts moves.
--   whole_plan   the plan of any set, for tables of any length
--   fit_of       whether tables of m shares and k slices have the rows that are counted: refusal 7 where one has too few
--   tables_said  what the code's answer says with its columns: the plan that they have in front, or its refusal
--   Few          counts that are no more than such columns have
--   Filled       the plan of a set in such columns
-- Assumes nothing.
use Rattle.std.specs.Prelude.{cond, ◌||◌, List, ◌≡◌, ℕ, ◌≤◌, ltb, Result, Ok, Err, IfOk}
use Rattle.model.specs.Columns.{shares_in}
use Rattle.model.specs.Limits.{jobs_most, slices_most}
use Rattle.model.specs.Packed.{slices_in}
use Rattle.model.specs.Refusal.{Answer, given, says_refusal, and_then}
use Rattle.model.specs.Split.{Ticks}
use Rattle.model.specs.declared.Board.{Board}
use Rattle.model.specs.declared.Job.{Job}
use Rattle.model.specs.declared.Refusal.{Refusal}
use Rattle.model.specs.declared.Refusal.TheVariants.{TooShort}
use Rattle.split.specs.Shares.{shares_of}
use Rattle.columns.specs.declared.Counts.{Counts}
use Rattle.columns.specs.Plan.{Plan, plan_from}
use Rattle.planner.specs.declared.Tables.{Tables}

abbrev pub whole_plan : Board → ℕ → List Job → Answer Plan
whole_plan board n js = and_then (shares_of board n js) (λ (ss : List Ticks). given (plan_from board ss))

abbrev pub fit_of : Counts → (m k : ℕ) → Result (Unit {0}) Refusal
fit_of c m k = cond (ltb m c.jobs || ltb k c.slices) (Err TooShort) (Ok tt)

abbrev pub tables_said : Result Counts Refusal → Tables → Answer Plan
tables_said (Ok c) t = given (record { shares = shares_in c.jobs t.first t.second; slices = slices_in c.slices t.slices })
tables_said (Err r) t = says_refusal r

pub record Few (c : Counts) : Type 0 where
  pub shares : c.jobs ≤ jobs_most
  pub slices : c.slices ≤ slices_most

pub record Filled (board : Board) (n : ℕ) (js : List Job) (r : Result Counts Refusal) (t : Tables) : Type 0 where
  pub says : tables_said r t ≡ whole_plan board n js
  pub few : IfOk r Few
