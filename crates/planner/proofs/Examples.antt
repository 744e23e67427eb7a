-- Sets at the limits of what a plan can have, worked out by the checker, so that no bound can be lower; and the moves of the set with F(8).
--   board, jobs   as many jobs as there can be, on as many cores
--   most-slices   their plan has 94 slices
--   most-movers   two jobs on one core of each kind, and both move
--   eight-moves   the moves of B(6,16) three times and F(8), on two cores of each kind (docs/SPEC.md, "Moves")
--   most-moves    four jobs on the same cores that move ten times together, as often as there can be moves on four cores
-- Assumes nothing.
use mathlib.Core.List.{List, [], ◌∷◌, ◌++◌}
use mathlib.Core.Path.{◌≡◌, refl}
use Prim.Native.Nat.{ℕ, ◌+◌, ◌*◌}
use lib.ListN.{length, replicate}
use Rattle.rows.specs.Lists.{sum_of, lowest}
use Rattle.model.specs.Board.{room_of}
use Rattle.model.specs.Limits.{jobs_most, slices_most}
use Rattle.model.specs.Movers.{movers}
use Rattle.model.specs.Split.{share}
use Rattle.model.specs.declared.Board.{Board}
use Rattle.model.specs.declared.Job.{Job}
use Rattle.model.specs.declared.Job.TheVariants.{Both, OnlyFirst, OnlySecond}
use Rattle.legal.specs.Legal.{on_board, legal_of}
use Rattle.split.specs.Home.{at_home, keep_of, give_of}
use Rattle.split.specs.Shares.{settled, by_over}
use Rattle.split.specs.Steps.{better, next_from, moved_of, step_of, steps_of}
use Rattle.slices.specs.Moves.{moves}
use Rattle.slices.specs.Table.{chosen, pieces_of, cut_of, packed, table_of}
use Rattle.slices.specs.declared.Moves.{Moves}
use Rattle.columns.specs.Plan.{plan_of, shares_given, slices_given}
use Rattle.planner.specs.PlanMoves.{moves_in, roomy_plan}

abbrev pub board : Board
board = record { window = 1000; first = 8; second = 8 }

abbrev both : ℕ → ℕ → Job
both a b = Both (record { 0 = a }) (record { 0 = b })

abbrev pub jobs : List Job
jobs =
    replicate 15 (both 800 1338)
    ++ both 400 900 ∷ (replicate 24 (OnlyFirst (record { 0 = 10 })) ++ replicate 24 (OnlySecond (record { 0 = 5 })))

pub most-slices : length (slices_given (plan_of board jobs_most jobs jobs_most slices_most)) ≡ slices_most
unfolding lowest legal_of on_board at_home keep_of give_of better next_from moved_of step_of steps_of settled by_over chosen pieces_of cut_of packed table_of room_of
most-slices = refl

pub most-movers : movers (shares_given (plan_of (record { window = 10; first = 1; second = 1 }) 2 (both 8 11 ∷ both 9 13 ∷ []) 2 4)) ≡ 2
unfolding lowest legal_of on_board at_home keep_of give_of better next_from moved_of step_of steps_of settled by_over chosen pieces_of cut_of packed table_of room_of
most-movers = refl

-- A board of two cores of each kind.
abbrev four : Board
four = record { window = 10; first = 2; second = 2 }

pub eight-moves : moves_in (roomy_plan four 4 (both 6 16 ∷ both 6 16 ∷ both 6 16 ∷ OnlyFirst (record { 0 = 8 }) ∷ []))
    ≡ moves 2 0 ∷ moves 2 1 ∷ moves 2 1 ∷ moves 0 0 ∷ []
unfolding lowest legal_of on_board at_home keep_of give_of better next_from moved_of step_of steps_of settled by_over chosen pieces_of cut_of packed table_of room_of
eight-moves = refl

abbrev restless : List Job
restless = both 8 16 ∷ both 8 16 ∷ both 8 16 ∷ both 6 12 ∷ []

pub most-moves : (shares_given (roomy_plan four 4 restless) ≡ share 6 4 ∷ share 6 4 ∷ share 6 4 ∷ share 2 8 ∷ [])
    × (moves_in (roomy_plan four 4 restless) ≡ moves 2 0 ∷ moves 2 1 ∷ moves 2 1 ∷ moves 2 0 ∷ [])
    × (sum_of (λ (m : Moves). m.outer + m.inner) (moves_in (roomy_plan four 4 restless)) + 2 ≡ 3 * (four.first + four.second))
unfolding lowest legal_of on_board at_home keep_of give_of better next_from moved_of step_of steps_of settled by_over chosen pieces_of cut_of packed table_of room_of
most-moves = (refl, refl, refl)
