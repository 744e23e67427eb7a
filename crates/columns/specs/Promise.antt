-- What the planning core promises: the plan of specs/Plan.antt, in columns of numbers.
--   Columned   the plan in columns: the answer, and every number of each column
-- Assumes nothing.
use Rattle.std.specs.Prelude.{List, map, ◌≡◌, ℕ, length, Result}
use Rattle.rows.specs.Lists.{front}
use Rattle.model.specs.Packed.{pack_of}
use Rattle.model.specs.Refusal.{says}
use Rattle.model.specs.Split.{ticks_on}
use Rattle.model.specs.declared.Kind.TheVariants.{First, Second}
use Rattle.model.specs.declared.Board.{Board}
use Rattle.model.specs.declared.Job.{Job}
use Rattle.model.specs.declared.Refusal.{Refusal}
use Rattle.columns.specs.Plan.{columns_of, shares_given, slices_given, counts_in}
use Rattle.columns.specs.declared.Counts.{Counts}

-- What the columns hold before the call, and after it with a prime: new numbers at the front of each, and the others as they were.
pub record Columned (board : Board) (n : ℕ) (js : List Job) (s1 s2 rows : List ℕ) (r : Result Counts Refusal) (s1' s2' rows' : List ℕ) : Type 0 where
  pub says : says r ≡ counts_in (columns_of board n js (length s1) (length s2) (length rows))
  pub first : s1' ≡ front (map (ticks_on First) (shares_given (columns_of board n js (length s1) (length s2) (length rows)))) s1
  pub second : s2' ≡ front (map (ticks_on Second) (shares_given (columns_of board n js (length s1) (length s2) (length rows)))) s2
  pub slices : rows' ≡ front (map pack_of (slices_given (columns_of board n js (length s1) (length s2) (length rows)))) rows
