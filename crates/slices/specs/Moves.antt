-- The moves of a job, round the window's end: docs/SPEC.md, "Moves".
--   same_job    a row of the same job as a slice
--   is_before   a row of the same job that starts before a slice
--   later       of the slice found so far and a row, the one that starts later
--   latest      of the rows of which a test holds, the one that starts last
--   before_of   the slice before: of the rows of the same job that start before it, the one that starts last, and where there is none, the
--               one that starts last of all, since the window repeats
--   is_outer    a slice on another kind than the one before
--   is_inner    a slice on another core of the same kind than the one before
--   counted     a slice of a job of which, with the slice before it, a test holds
--   moves       so many outer moves, and so many inner ones
--   moves_of    the outer and the inner moves of a job
-- Assumes nothing.
use Rattle.std.specs.Prelude.{Bool, false, cond, not, ◌&&◌, List, ℕ, eqb, ltb, Option, None, Some}
use Rattle.std.specs.List.{filter, reduce, count_by}
use Rattle.std.specs.Option.{option_or}
use Rattle.model.specs.Board.{same_kind}
use Rattle.model.specs.declared.Slice.{Slice}
use Rattle.slices.specs.declared.Moves.{Moves}

abbrev pub same_job : Slice → Slice → Bool
same_job s r = eqb r.job s.job

abbrev pub is_before : Slice → Slice → Bool
is_before s r = same_job s r && ltb r.start s.start

-- Of equal starts the first found stays. They do not happen in a timetable.
abbrev pub later : Slice → Slice → Slice
later found r = cond (ltb found.start r.start) r found

abbrev pub latest : (Slice → Bool) → List Slice → Option Slice
latest test rows = reduce later (filter test rows)

-- A job's only slice comes after itself: no change of core, and so no move.
abbrev pub before_of : List Slice → Slice → Option Slice
before_of rows s = option_or (latest (is_before s) rows) (latest (same_job s) rows)

-- A change of kind is an outer move. Nothing stands before a slice only if the rows have none of its job, not even itself, and `moves_of` asks of
-- slices of the rows alone.
abbrev pub is_outer : Option Slice → Slice → Bool
is_outer None s = false
is_outer (Some b) s = not (same_kind b.kind s.kind)

-- Any other change of core is an inner one.
abbrev pub is_inner : Option Slice → Slice → Bool
is_inner None s = false
is_inner (Some b) s = same_kind b.kind s.kind && not (eqb b.core s.core)

abbrev pub counted : (Option Slice → Slice → Bool) → List Slice → ℕ → Slice → Bool
counted test rows job s = eqb s.job job && test (before_of rows s) s

abbrev pub moves : ℕ → ℕ → Moves
moves outer inner = record { outer = outer; inner = inner }

abbrev pub moves_of : List Slice → ℕ → Moves
moves_of rows job = moves (count_by (counted is_outer rows job) rows) (count_by (counted is_inner rows job) rows)
