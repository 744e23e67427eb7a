-- The table of the worked set B(6,16) three times and F(8), on two cores of each kind in a window of ten ticks, as numbers: it can be run, and what
-- runs is worked out by the checker at a few places. Assumes nothing.
--   eight           the table; eight-runs: its checks pass
--   eight-first, eight-last, eight-second, eight-idle   what runs on a core at its first tick and at its last, on the other kind, and where no row is
--   eight-beyond    the tick after the last is refused
--   eight-doubled   with its first row once more behind the others it is refused, at that row
use mathlib.Core.List.{List, [], ◌∷◌, ◌++◌, map}
use mathlib.Core.Path.{◌≡◌, refl}
use Prim.Native.Nat.{ℕ}
use lib.ListN.{take}
use Rattle.std.specs.Prelude.{None, Some}
use Rattle.rows.specs.Lists.{lowest}
use Rattle.model.specs.Packed.{pack_of, slice_in}
use Rattle.model.specs.Refusal.{given, refused}
use Rattle.model.specs.declared.Kind.TheVariants.{First, Second}
use Rattle.model.proofs.BothSides.{board, row}
use Rattle.legal.specs.Legal.{on_board}
use Rattle.handler.specs.Check.{is_row, collision_of, check_of}
use Rattle.handler.specs.Running.{running_in, asked_of}

abbrev eight : List ℕ
eight =
    map pack_of
    (row 0 First 0 0 4 ∷ row 1 First 0 4 4 ∷ row 2 First 0 8 2 ∷ row 2 First 1 0 2 ∷ row 3 First 1 2 8 ∷ row 0 Second 0 4 6 ∷ row 1 Second 0 0 4
    ∷ row 1 Second 1 8 2 ∷ row 2 Second 1 2 6 ∷ [])

pub eight-runs : check_of (board 2 2) eight ≡ given tt
unfolding lowest on_board pack_of slice_in is_row collision_of check_of
eight-runs = refl

pub eight-first : asked_of (board 2 2) eight 0 1 0 ≡ given (Some 0)
unfolding lowest on_board pack_of slice_in is_row collision_of check_of running_in
eight-first = refl

pub eight-last : asked_of (board 2 2) eight 9 1 0 ≡ given (Some 2)
unfolding lowest on_board pack_of slice_in is_row collision_of check_of running_in
eight-last = refl

pub eight-second : asked_of (board 2 2) eight 9 2 0 ≡ given (Some 0)
unfolding lowest on_board pack_of slice_in is_row collision_of check_of running_in
eight-second = refl

pub eight-idle : asked_of (board 2 2) eight 0 2 1 ≡ given None
unfolding lowest on_board pack_of slice_in is_row collision_of check_of running_in
eight-idle = refl

pub eight-beyond : asked_of (board 2 2) eight 10 1 0 ≡ refused 11 0
unfolding lowest on_board pack_of slice_in is_row collision_of check_of running_in
eight-beyond = refl

pub eight-doubled : check_of (board 2 2) (eight ++ take 1 eight) ≡ refused 13 9
unfolding lowest on_board pack_of slice_in is_row collision_of check_of
eight-doubled = refl
