-- The plan of a set: its shares, and the table of slices that they give. The refusals of the split come before 7: docs/SPEC.md, "The slices".
--   Plan                         the shares of the jobs, and the table
--   plan_from                    the plan of given shares
--   fitted                       refusal 7 where a lent table has too few rows
--   plan_of                      the plan of any set, for tables of m shares and k slices
--   shares_given, slices_given   the rows that an answer gives: none where the set is refused
--   counts_in                    what the planning call answers: the counts of both
--   too_short                    columns of m1 and m2 ticks and k slices that cannot hold the plan of every set
--   columns_of                   the plan of any set, for such columns: refusal 7 where one is too short, whatever the set
-- Assumes nothing.
use Rattle.std.specs.Prelude.{Bool, cond, ◌||◌, List, [], ℕ, ltb, length}
use Rattle.model.specs.Limits.{jobs_most, slices_most}
use Rattle.model.specs.Refusal.{Answer, given, refused, and_then}
use Rattle.model.specs.Split.{Ticks}
use Rattle.model.specs.declared.Board.{Board}
use Rattle.model.specs.declared.Job.{Job}
use Rattle.model.specs.declared.Slice.{Slice}
use Rattle.split.specs.Shares.{shares_of}
use Rattle.slices.specs.Table.{table_of}
use Rattle.columns.specs.declared.Counts.{Counts}

pub record Plan : Type 0 where
  pub shares : List Ticks
  pub slices : List Slice

abbrev pub plan_from : Board → List Ticks → Plan
plan_from board ss = record { shares = ss; slices = table_of board.window ss }

abbrev pub fitted : (m k : ℕ) → Plan → Answer Plan
fitted m k p = cond (ltb m (length p.shares) || ltb k (length p.slices)) (refused 7 0) (given p)

abbrev pub plan_of : Board → ℕ → List Job → (m k : ℕ) → Answer Plan
plan_of board n js m k = and_then (shares_of board n js) (λ (ss : List Ticks). fitted m k (plan_from board ss))

abbrev pub shares_given : Answer Plan → List Ticks
shares_given (given p) = p.shares
shares_given (refused number place) = []

abbrev pub slices_given : Answer Plan → List Slice
slices_given (given p) = p.slices
slices_given (refused number place) = []

abbrev pub counts_in : Answer Plan → Answer Counts
counts_in (given p) = given (record { jobs = length p.shares; slices = length p.slices })
counts_in (refused number place) = refused number place

abbrev pub too_short : (m1 m2 k : ℕ) → Bool
too_short m1 m2 k = ltb m1 jobs_most || ltb m2 jobs_most || ltb k slices_most

abbrev pub columns_of : Board → ℕ → List Job → (m1 m2 k : ℕ) → Answer Plan
columns_of board n js m1 m2 k =
    and_then (shares_of board n js) (λ (ss : List Ticks). cond (too_short m1 m2 k) (refused 7 0) (given (plan_from board ss)))
