-- How many slices the table has. One idea: a slice more than pieces is a run that passes an inner edge of the kind's cores, and a piece more than
-- jobs is a mover. Assumes nothing.
use mathlib.Core.Path.{◌≡◌}
use mathlib.Core.List.{List}
use Prim.Native.Nat.{◌+◌, ◌*◌, ◌≤◌}
use native.Mathlib.Omega.{arith}
use lib.ListN.{length, length-append}
use Rattle.model.specs.Board.{cores_of}
use Rattle.model.specs.Movers.{movers}
use Rattle.model.specs.Split.{Ticks}
use Rattle.model.specs.declared.Board.{Board}
use Rattle.model.specs.declared.Kind.{Kind}
use Rattle.model.specs.declared.Kind.TheVariants.{First, Second}
use Rattle.model.proofs.RoomLaws.{room_most, room-both}
use Rattle.model.proofs.Movers.{movers-few}
use Rattle.slices.specs.Fits.{Fits}
use Rattle.slices.specs.Table.{pieces_of, table_of}
use Rattle.slices.proofs.Packs.{cuts, packed-length, cuts-few}
use Rattle.slices.proofs.Pieces.{pieces-total, pieces-few}
use Rattle.slices.proofs.Places.{Placed, pieces-placed}
use Rattle.slices.proofs.Timetabled.{rows_on, sized}

module _ (board : Board) (ss : List Ticks) (fits : Fits board ss) where
  pub fits-movers : movers ss ≤ board.first + board.second
  fits-movers =
      movers-few board.window board.first board.second ss fits.some fits.one-uneven
      (omega (arith, fits.within First, fits.within Second, room-both board))

  -- A slice for each piece, and one more for each edge of a core that a run passes.
  pub table-length : length (table_of board.window ss)
      ≡ length (pieces_of First board.window ss) + length (pieces_of Second board.window ss)
      + (cuts board.window 0 (pieces_of First board.window ss) + cuts board.window 0 (pieces_of Second board.window ss))
  unfolding table_of
  table-length =
      omega (
        arith,
        length-append (rows_on First board.window ss) (rows_on Second board.window ss),
        packed-length First board.window fits.some 0 (pieces_of First board.window ss),
        packed-length Second board.window fits.some 0 (pieces_of Second board.window ss),
      )

  pub kind-cuts : (k : Kind) → 1 ≤ cores_of board k → cuts board.window 0 (pieces_of k board.window ss) + 1 ≤ cores_of board k
  kind-cuts k some =
      cuts-few k board.window fits.some (Placed k board.window ss) (sized board ss fits k) (cores_of board k) 1 0
      (pieces_of k board.window ss) (pieces-placed k board.window ss) (omega arith) (omega arith) some
      (omega (arith, pieces-total k board.window ss, fits.within k, room_most board k))

  pub table-few : 1 ≤ board.first → 1 ≤ board.second
      → length (table_of board.window ss) + 2 ≤ length ss + 2 * (board.first + board.second)
  table-few some1 some2 =
      omega (arith, table-length, fits-movers, kind-cuts First some1, kind-cuts Second some2, pieces-few board.window ss)
