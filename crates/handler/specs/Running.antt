-- Which job runs at a tick of the window on a core: docs/SPEC.md, "The tick handler". A kind and a core are given as numbers.
--   cores_in     the cores of a kind by its number: 1 the first, 2 the second; of any other there are none
--   is_beyond    whether a tick is not in the window, or the board lacks the kind or the core: refusal 11
--   is_at        whether a slice is on that core and runs at that tick
--   running_in   what a core does at a tick, by the rows of a table: the job of the row that is there, or nothing
--   asked_of     the handler's answer: the checks of the table, then 11, then what runs
-- In a table that passes its checks at most one row is there (proofs/OneRow.antt), so that the first is the only one. Assumes nothing.
use Rattle.std.specs.Prelude.{Bool, cond, ◌&&◌, ◌||◌, List, [], ◌∷◌, ℕ, ◌+◌, eqb, leb, ltb, length, Option, None, Some}
use Rattle.model.specs.Packed.{kind_number, slices_in}
use Rattle.model.specs.Refusal.{Answer, given, refused, and_then}
use Rattle.model.specs.declared.Board.{Board}
use Rattle.model.specs.declared.Slice.{Slice}
use Rattle.handler.specs.Check.{check_of}

abbrev pub cores_in : Board → ℕ → ℕ
cores_in board kind = cond (eqb kind 1) board.first (cond (eqb kind 2) board.second 0)

abbrev pub is_beyond : Board → (tick kind core : ℕ) → Bool
is_beyond board tick kind core = leb board.window tick || leb (cores_in board kind) core

abbrev pub is_at : (tick kind core : ℕ) → Slice → Bool
is_at tick kind core s =
    eqb (kind_number s.kind) kind && (eqb s.core core && (leb s.start tick && ltb tick (s.start + s.length)))

unfoldable pub running_in : (tick kind core : ℕ) → List Slice → Option ℕ
running_in tick kind core [] = None
running_in tick kind core (s ∷ rows) = cond (is_at tick kind core s) (Some s.job) (running_in tick kind core rows)

abbrev pub asked_of : Board → List ℕ → (tick kind core : ℕ) → Answer (Option ℕ)
asked_of board xs tick kind core =
    and_then (check_of board xs) (λ (_ : Unit {0}). cond (is_beyond board tick kind core) (refused 11 0)
    (given (running_in tick kind core (slices_in (length xs) xs))))
