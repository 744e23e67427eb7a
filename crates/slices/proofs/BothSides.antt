-- Both sides of the lines that this crate's theorems and definitions draw, as model/proofs/BothSides.antt has them for the model: examples exactly
-- at a limit, and such as are wrong by one there and nowhere else. The lines that are held, in this order:
--   Fits       no uneven mover, one, and two; a job's two shares within the window; each kind within its room; a window at all
--   moves_of   no slice, one, two and three; a change of kind and one of core, inside the window and at its end; slices by start
-- Assumes nothing.
use mathlib.Core.List.{List, [], ◌∷◌}
use mathlib.Core.Path.{◌≡◌, refl}
use native.Mathlib.Omega.{arith}
use Rattle.model.specs.Board.{room_of}
use Rattle.model.specs.Split.{Ticks, share}
use Rattle.model.specs.declared.Kind.{Kind}
use Rattle.model.specs.declared.Kind.TheVariants.{First, Second}
use Rattle.model.proofs.BothSides.{board, row}
use Rattle.slices.specs.Fits.{Fits}
use Rattle.slices.specs.Moves.{moves, moves_of}

-- ==== Fits, on a board with one core of each kind
abbrev On : List Ticks → Type 0
On ss = Fits (board 1 1) ss

each-kind : (P : Kind → Type 0) → P First → P Second → (kind : Kind) → P kind
each-kind P a b First = a
each-kind P a b Second = b

pub fits-even : On (share 4 6 ∷ share 6 4 ∷ [])
unfolding room_of
fits-even = record { some = omega arith; each = omega arith; within = each-kind _ (omega arith) (omega arith); one-uneven = omega arith }

pub fits-one-uneven : On (share 4 6 ∷ share 6 3 ∷ [])
unfolding room_of
fits-one-uneven = record { some = omega arith; each = omega arith; within = each-kind _ (omega arith) (omega arith); one-uneven = omega arith }

pub fits-two-unevens-not : On (share 4 5 ∷ share 6 3 ∷ []) → ⊥
fits-two-unevens-not f = omega arith

pub fits-long-not : On (share 4 6 ∷ share 5 6 ∷ []) → ⊥
fits-long-not f = omega arith

pub fits-first-not : On (share 10 0 ∷ share 1 0 ∷ []) → ⊥
unfolding room_of
fits-first-not f = omega (arith, f.within First)

pub fits-second-not : On (share 0 10 ∷ share 0 1 ∷ []) → ⊥
unfolding room_of
fits-second-not f = omega (arith, f.within Second)

pub fits-no-window-not : Fits (record { window = 0; first = 1; second = 1 }) [] → ⊥
fits-no-window-not f = omega arith

-- ==== moves_of, of job 0
pub moves-none : moves_of (row 1 First 0 0 4 ∷ row 1 Second 0 4 4 ∷ []) 0 ≡ moves 0 0
moves-none = refl

pub moves-one : moves_of (row 0 First 0 4 4 ∷ []) 0 ≡ moves 0 0
moves-one = refl

pub moves-kinds : moves_of (row 0 First 0 0 4 ∷ row 0 Second 0 4 6 ∷ []) 0 ≡ moves 2 0
moves-kinds = refl

pub moves-cores : moves_of (row 0 First 0 6 4 ∷ row 0 First 1 0 2 ∷ []) 0 ≡ moves 0 2
moves-cores = refl

pub moves-three : moves_of (row 0 First 0 4 4 ∷ row 0 Second 0 0 4 ∷ row 0 Second 1 8 2 ∷ []) 0 ≡ moves 2 1
moves-three = refl

-- No table has four slices of a job; with three every order goes round alike.
pub moves-by-start : moves_of (row 0 First 0 0 2 ∷ row 0 First 1 4 2 ∷ row 0 Second 0 2 2 ∷ row 0 Second 1 6 2 ∷ []) 0 ≡ moves 4 0
moves-by-start = refl
