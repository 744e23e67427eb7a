-- The moves of a planned set: docs/SPEC.md, "Moves". A refused set gets its refusal instead.
--   moves_in        the moves of each job of a plan, by number: none where the set is refused
--   no_moves        what stands in rows that are not used
--   roomy_plan      the plan of a set, for tables that are long enough for every set
--   moves_said      what the code's answer says: the counts of the plan, or its refusal
--   MovesPromised   what the call for moves promises: what the planning call answers, and every row
-- Assumes nothing.
use Rattle.std.specs.Prelude.{List, [], ◌++◌, ◌≡◌, ℕ, ◌-◌, length, replicate, Result, Ok, Err, IfOk}
use Rattle.rows.specs.Upto.{upto}
use Rattle.model.specs.Limits.{jobs_most, slices_most}
use Rattle.model.specs.Refusal.{Answer, given, refused, says_refusal}
use Rattle.model.specs.declared.Board.{Board}
use Rattle.model.specs.declared.Job.{Job}
use Rattle.model.specs.declared.Refusal.{Refusal}
use Rattle.slices.specs.Moves.{moves, moves_of}
use Rattle.slices.specs.declared.Moves.{Moves}
use Rattle.columns.specs.declared.Counts.{Counts}
use Rattle.columns.specs.Plan.{Plan, plan_of, counts_in}
use Rattle.planner.specs.declared.PlannedMoves.{PlannedMoves}

abbrev pub moves_in : Answer Plan → List Moves
moves_in (given p) = upto (length p.shares) (moves_of p.slices)
moves_in (refused number place) = []

abbrev pub no_moves : Moves
no_moves = moves 0 0

abbrev pub roomy_plan : Board → ℕ → List Job → Answer Plan
roomy_plan board n js = plan_of board n js jobs_most slices_most

abbrev pub moves_said : Result PlannedMoves Refusal → Answer Counts
moves_said (Ok p) = given p.counts
moves_said (Err r) = says_refusal r

-- A refusal has no rows of moves.
pub record MovesPromised (board : Board) (n : ℕ) (js : List Job) (r : Result PlannedMoves Refusal) : Type 0 where
  pub says : moves_said r ≡ counts_in (roomy_plan board n js)
  pub moves : IfOk r (λ (p : PlannedMoves).
      p.moves ≡ moves_in (roomy_plan board n js) ++ replicate (jobs_most - length (moves_in (roomy_plan board n js))) no_moves)
