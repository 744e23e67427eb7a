-- Where a job is at home, which jobs are stretched, and the far end: docs/SPEC.md, "Where the split starts" and "How far a job can be
-- moved". A job is seen from a kind, as a row.
--   ceil               a quotient, rounded up
--   home_on            whether a job on both kinds is at home on a kind: the only rule in which the kinds differ
--   both_row           the row of a job on both kinds, at home here or there
--   only_row           the row of a job on one kind alone, this one or the other
--   at_home            a job at home, seen from a kind
--   stretched_at       1 for a stretched job whose home is a kind, else 0
--   keep_of, give_of   the far end: the ticks that the job keeps at home, and those that it has on the other kind
-- Assumes nothing.
use Rattle.std.specs.Prelude.{Bool, true, false, cond, ◌&&◌, ℕ, ◌+◌, ◌-◌, ◌*◌, ◌/◌, leb, ltb}
use Rattle.model.specs.Board.{on}
use Rattle.model.specs.declared.Kind.{Kind}
use Rattle.model.specs.declared.Kind.TheVariants.{First, Second}
use Rattle.model.specs.declared.Job.{Job}
use Rattle.model.specs.declared.Job.TheVariants.{Both, OnlyFirst, OnlySecond}
use Rattle.split.specs.Rows.{Row}

abbrev pub ceil : ℕ → ℕ → ℕ
ceil a b = (a + (b - 1)) / b

-- Home is where the job is cheaper. Of equal costs the first kind is home, so the two lines differ.
abbrev pub home_on : Kind → ℕ → ℕ → Bool
home_on First c1 c2 = leb c1 c2
home_on Second c1 c2 = ltb c2 c1

-- It costs n here and f on the other kind. At home here, it can be moved.
abbrev pub both_row : Bool → ℕ → ℕ → Row
both_row true n f = record { near = n; far = f; here = n; there = 0; movable = true }
both_row false n f = record { near = n; far = f; here = 0; there = f; movable = false }

-- Its whole cost is where it may run, and it can never be moved.
abbrev pub only_row : Bool → ℕ → Row
only_row true c = record { near = c; far = 0; here = c; there = 0; movable = false }
only_row false c = record { near = 0; far = c; here = 0; there = c; movable = false }

unfoldable pub at_home : Kind → Job → Row
at_home k (Both c1 c2) = both_row (home_on k c1.0 c2.0) (on k c1.0 c2.0) (on k c2.0 c1.0)
at_home k (OnlyFirst c1) = only_row (on k true false) c1.0
at_home k (OnlySecond c2) = only_row (on k false true) c2.0

-- It fits the window here and not on the other kind, so moving it away can never free this kind of it wholly.
unfoldable pub stretched_at : Kind → ℕ → Job → ℕ
stretched_at k w (Both c1 c2) = cond (leb (on k c1.0 c2.0) w && ltb w (on k c2.0 c1.0)) 1 0
stretched_at k w (OnlyFirst c1) = 0
stretched_at k w (OnlySecond c2) = 0

-- The far end of a job that costs n at home and f on the other kind: (0, f) if f ≤ W, and else (L, W − L) with L rounded up.
unfoldable pub keep_of : (w n f : ℕ) → ℕ
keep_of w n f = cond (leb f w) 0 (ceil (n * (f - w)) (f - n))

unfoldable pub give_of : (w n f : ℕ) → ℕ
give_of w n f = cond (leb f w) f (w - keep_of w n f)
