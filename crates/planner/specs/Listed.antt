-- Internal: no public promise cites this. The theorems on the page of demands do, so read it with them.
-- The refusals of a set, line by line: docs/SPEC.md, "Which sets are legal" for 1 to 5, "The steps" for 6 and 14 to 16, "The slices" for 7.
-- Each line has its number, its place and its cause, and says that no line above it applies. A call is refused exactly so:
-- `refused-exactly` in proofs/Demands.antt.
--   Outside       a number that is not in 1 to a limit
--   BadCost       line 4, of one job: a cost on a kind that it may use is outside 1 to the limit
--   TooLong       line 5, of one job: all its costs on the kinds that it may use are above W
--   LowestOf      a job of the set of which something holds that holds of none before it
--   Sound         a board to which lines 1 and 2 do not apply
--   steps_on      what the steps of the split answer, on the rooms of a board
--   ShortTables   tables of m shares and k slices that may be too short: m is below the count of jobs, or k below the most slices of a plan
--                 of them
--   Listed        a refusal of the jobs js on a board, for tables of m shares and k slices
-- Assumes nothing.
use Rattle.std.specs.Prelude.{List, ◌⊎◌, ◌≡◌, ℕ, ◌+◌, ◌*◌, ◌≤◌, ◌<◌, length}
use Rattle.rows.specs.Lists.{All}
use Rattle.rows.specs.Numbered.{LowestIn}
use Rattle.model.specs.Board.{room_of}
use Rattle.model.specs.Empty.{no_job}
use Rattle.model.specs.Limits.{window_most, cores_most, jobs_most, cost_most}
use Rattle.model.specs.Refusal.{Answer, given}
use Rattle.model.specs.Split.{Ticks}
use Rattle.model.specs.declared.Kind.TheVariants.{First, Second}
use Rattle.model.specs.declared.Board.{Board}
use Rattle.model.specs.declared.Job.{Job}
use Rattle.model.specs.declared.Job.TheVariants.{Both, OnlyFirst, OnlySecond}
use Rattle.legal.specs.Lawful.{Lawful}
use Rattle.split.specs.Causes.{RoomCause}
use Rattle.split.specs.Shares.{split_of}
use Rattle.slices.specs.Table.{table_of}

abbrev pub Outside : ℕ → ℕ → Type 0
Outside most x = (x < 1) ⊎ (most < x)

abbrev pub BadCost : Job → Type 0
BadCost (Both c1 c2) = Outside cost_most c1.0 ⊎ Outside cost_most c2.0
BadCost (OnlyFirst c1) = Outside cost_most c1.0
BadCost (OnlySecond c2) = Outside cost_most c2.0

abbrev pub TooLong : ℕ → Job → Type 0
TooLong w (Both c1 c2) = (w < c1.0) × (w < c2.0)
TooLong w (OnlyFirst c1) = w < c1.0
TooLong w (OnlySecond c2) = w < c2.0

abbrev pub LowestOf : (Job → Type 0) → List Job → ℕ → Type 0
LowestOf Bad js job = LowestIn no_job Bad js job

pub record Sound (board : Board) : Type 0 where
  pub window : Outside window_most board.window → ⊥
  pub first : Outside cores_most board.first → ⊥
  pub second : Outside cores_most board.second → ⊥

abbrev pub steps_on : Board → List Job → Answer (List Ticks)
steps_on board js = split_of board.window (room_of board First) (room_of board Second) js

abbrev pub ShortTables : Board → List Job → (m k : ℕ) → Type 0
ShortTables board js m k = (m < length js) ⊎ (k + 2 < length js + 2 * (board.first + board.second))

pub data Listed (board : Board) (js : List Job) (m k : ℕ) : (number place : ℕ) → Type 0 where
  window : Outside window_most board.window → Listed board js m k 1 0
  cores : (Outside window_most board.window → ⊥) → Outside cores_most board.first ⊎ Outside cores_most board.second → Listed board js m k 2 0
  many : Sound board → jobs_most < length js → Listed board js m k 3 jobs_most
  cost : (job : ℕ) → LowestOf BadCost js job → Sound board → length js ≤ jobs_most → Listed board js m k 4 job
  long : (job : ℕ) → LowestOf (TooLong board.window) js job → Sound board → length js ≤ jobs_most → All (λ (j : Job). BadCost j → ⊥) js
      → Listed board js m k 5 job
  room : {number place : ℕ} → Lawful board (length js) js → RoomCause board js number place → Listed board js m k number place
  space : (ss : List Ticks) → Lawful board (length js) js → steps_on board js ≡ given ss → (m < length js) ⊎ (k < length (table_of board.window ss))
      → Listed board js m k 7 0
