-- Internal: no public promise cites this. The theorem that the table is a timetable does (proofs/Timetabled.antt).
--   Fits   shares that can be placed on a board: a job's two within the window, each kind within its room, one mover at most not even
-- Assumes nothing.
use Rattle.std.specs.Prelude.{List, ◌+◌, ◌≤◌}
use Rattle.rows.specs.Lists.{All}
use Rattle.model.specs.Board.{room_of}
use Rattle.model.specs.Movers.{unevens}
use Rattle.model.specs.Split.{Ticks, ticks_of}
use Rattle.model.specs.declared.Kind.{Kind}
use Rattle.model.specs.declared.Board.{Board}

pub record Fits (board : Board) (ss : List Ticks) : Type 0 where
  pub some : 1 ≤ board.window
  pub each : All (λ (s : Ticks). s.first + s.second ≤ board.window) ss
  pub within : (kind : Kind) → ticks_of kind ss ≤ room_of board kind
  pub one-uneven : unevens board.window ss ≤ 1
