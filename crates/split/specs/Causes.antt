-- Internal: no public promise cites this. The theorems on the pages of demands do, so read it with them.
-- Why a legal set is refused for room, number by number: docs/SPEC.md, "The steps". The causes are over the jobs at home, the far ends and the
-- rooms; the last one also looks at where the steps stopped. That a set is refused exactly so is `refused-for-room` in proofs/Causes.antt.
--   keeps        the ticks that a row keeps on the kind that is looked from, if it goes to its far end where it can be moved
--   far_ticks    the ticks of a kind with all its movable jobs at their far ends
--   stopped_on   the rows where the steps from a kind stopped
--   BothOver     both kinds are over at home
--   OneOver      a kind is over at home, and the other is within its room
--   StillOver    so it is, and over with all its movable jobs at their far ends too
--   OtherOver    so it is, and within its room with these at their far ends, but the other is over where the steps stopped
--   RoomCause    a refusal for room, by number and place, with its cause
-- Assumes nothing.
use Rattle.std.specs.Prelude.{cond, List, ℕ, ◌≤◌, ◌<◌, length}
use Rattle.rows.specs.Lists.{sum_of}
use Rattle.model.specs.Board.{room_of}
use Rattle.model.specs.Terms.{other}
use Rattle.model.specs.declared.Kind.{Kind}
use Rattle.model.specs.declared.Kind.TheVariants.{First, Second}
use Rattle.model.specs.declared.Board.{Board}
use Rattle.model.specs.declared.Job.{Job}
use Rattle.split.specs.Home.{keep_of}
use Rattle.split.specs.Rows.{Row}
use Rattle.split.specs.Shares.{home_rows, home_ticks}
use Rattle.split.specs.Steps.{there_sum, steps_of}

abbrev pub keeps : ℕ → Row → ℕ
keeps w r = cond r.movable (keep_of w r.near r.far) r.here

abbrev pub far_ticks : Board → List Job → Kind → ℕ
far_ticks board js k = sum_of (keeps board.window) (home_rows k js)

abbrev pub stopped_on : Board → List Job → Kind → List Row
stopped_on board js k = steps_of (length js) board.window (room_of board k) (home_rows k js)

pub record BothOver (board : Board) (js : List Job) : Type 0 where
  pub first : room_of board First < home_ticks First js
  pub second : room_of board Second < home_ticks Second js

pub record OneOver (board : Board) (js : List Job) (k : Kind) : Type 0 where
  pub over : room_of board k < home_ticks k js
  pub within : home_ticks (other k) js ≤ room_of board (other k)

pub record StillOver (board : Board) (js : List Job) (k : Kind) : Type 0 where
  pub home : OneOver board js k
  pub far : room_of board k < far_ticks board js k

pub record OtherOver (board : Board) (js : List Job) (k : Kind) : Type 0 where
  pub home : OneOver board js k
  pub far : far_ticks board js k ≤ room_of board k
  pub stopped : room_of board (other k) < there_sum (stopped_on board js k)

pub data RoomCause (board : Board) (js : List Job) : (number place : ℕ) → Type 0 where
  both-over : BothOver board js → RoomCause board js 6 0
  first-over : StillOver board js First → RoomCause board js 14 0
  second-over : StillOver board js Second → RoomCause board js 15 0
  other-over : (k : Kind) → OtherOver board js k → RoomCause board js 16 0
