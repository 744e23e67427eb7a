-- What is known of the room of a kind, so that it can change behind its name. Assumes nothing.
--   room_most   it is at most what its cores have in a window
--   room-both   the rooms of both kinds are at most what all cores have
--   room-limit  within the limits of a board it is at most what the most cores have in the longest window
use Prim.Native.Nat.{◌+◌, ◌*◌, ◌≤◌}
use native.Mathlib.Nat.{mul-le-mul}
use native.Mathlib.Omega.{arith}
use Rattle.model.specs.Board.{cores_of, room_of}
use Rattle.model.specs.Limits.{window_most, cores_most}
use Rattle.model.specs.declared.Kind.{Kind}
use Rattle.model.specs.declared.Kind.TheVariants.{First, Second}
use Rattle.model.specs.declared.Board.{Board}

pub room_most : (board : Board) (kind : Kind) → room_of board kind ≤ cores_of board kind * board.window
unfolding room_of
room_most board kind = omega arith

pub room-both : (board : Board) → room_of board First + room_of board Second ≤ (board.first + board.second) * board.window
room-both board = omega (arith, room_most board First, room_most board Second)

pub room-limit : (board : Board) (kind : Kind) → cores_of board kind ≤ cores_most → board.window ≤ window_most → room_of board kind ≤ cores_most * window_most
room-limit board kind few short = omega (arith, room_most board kind, mul-le-mul few short)
