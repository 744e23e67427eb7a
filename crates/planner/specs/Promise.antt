-- What the planning call promises: docs/SPEC.md, "What is promised of every set".
--   Unchanged   demand 1: a refusal changes no row of the lent tables
--   GoodPlan    what demand 2 says of a plan: its shares are a split in whole ticks, at most m1 + m2 of them move and at most one mover is
--               not even, and its rows are a timetable of them, at most n + 2·(m1 + m2) − 2
--   Served      demand 2: an accepted plan is a good one
--   ForRoom     demand 3: a refusal for room, and when exactly it is given
--   Promised    the lent planning call: the answer, every row of both tables, and the three demands in their own words
-- Assumes nothing.
use Rattle.std.specs.Prelude.{true, List, map, ◌↔◌, ◌≡◌, ◌+◌, ◌*◌, ◌≤◌, length, take, Result, IfOk, OnErr}
use Rattle.rows.specs.Lists.{front}
use Rattle.model.specs.Board.{room_of}
use Rattle.model.specs.Movers.{movers, unevens}
use Rattle.model.specs.Refusal.{given, says, room_refusal}
use Rattle.model.specs.ShareRow.{row_of, ticks_of_row}
use Rattle.model.specs.Split.{Ticks, WholeSplit}
use Rattle.model.specs.Timetable.{Timetable}
use Rattle.model.specs.declared.Kind.TheVariants.{First, Second}
use Rattle.model.specs.declared.Board.{Board}
use Rattle.model.specs.declared.Job.{Job}
use Rattle.model.specs.declared.Refusal.{Refusal}
use Rattle.model.specs.declared.Share.{Share}
use Rattle.model.specs.declared.Slice.{Slice}
use Rattle.legal.specs.Legal.{legal_of}
use Rattle.split.specs.Promise.{SplitOn, SmallerSplit, stretched_on}
use Rattle.columns.specs.Plan.{plan_of, shares_given, slices_given, counts_in}
use Rattle.columns.specs.declared.Counts.{Counts}

abbrev pub Unchanged : Result Counts Refusal → (ss ss' : List Share) → (ls ls' : List Slice) → Type 0
Unchanged r ss ss' ls ls' = OnErr r ((ss' ≡ ss) × (ls' ≡ ls))

pub record GoodPlan (board : Board) (js : List Job) (ss : List Ticks) (rows : List Slice) : Type 0 where
  pub whole : WholeSplit board.window (room_of board First) (room_of board Second) js ss
  pub timetable : Timetable board ss rows
  pub few-movers : movers ss ≤ board.first + board.second
  pub one-uneven : unevens board.window ss ≤ 1
  pub few : length rows + 2 ≤ length js + 2 * (board.first + board.second)

abbrev pub Served : Board → List Job → Result Counts Refusal → List Share → List Slice → Type 0
Served board js r ss' ls' = IfOk r (λ (c : Counts). GoodPlan board js (map ticks_of_row (take c.jobs ss')) (take c.slices ls'))

pub record ForRoom (board : Board) (js : List Job) (r : Result Counts Refusal) : Type 0 where
  pub only : room_refusal (says r) ≡ true → SmallerSplit board js → ⊥
  pub exactly : legal_of board (length js) js ≡ given tt → stretched_on board js First ≡ 0 → stretched_on board js Second ≡ 0
      → (room_refusal (says r) ≡ true) ↔ (SplitOn board js → ⊥)

-- The jobs js, and tables that held ss and ls, and hold ss' and ls' after the call.
pub record Promised (board : Board) (js : List Job) (ss : List Share) (ls : List Slice) (r : Result Counts Refusal) (ss' : List Share) (ls' : List Slice) : Type 0 where
  pub answer : says r ≡ counts_in (plan_of board (length js) js (length ss) (length ls))
  pub shares : ss' ≡ front (map row_of (shares_given (plan_of board (length js) js (length ss) (length ls)))) ss
  pub slices : ls' ≡ front (slices_given (plan_of board (length js) js (length ss) (length ls))) ls
  pub demand1 : Unchanged r ss ss' ls ls'
  pub demand2 : Served board js r ss' ls'
  pub demand3 : ForRoom board js r
