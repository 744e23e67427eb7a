-- The rows of a table are the rows of each job together. Assumes nothing.
use mathlib.Core.Path.{◌≡◌}
use mathlib.Core.Bool.{cond}
use mathlib.Core.List.{List, [], ◌∷◌}
use Prim.Native.Nat.{ℕ, ◌<◌}
use native.Mathlib.Omega.{arith}
use lib.Dec.{eqb}
use lib.ListN.{length}
use Rattle.rows.specs.Lists.{All}
use Rattle.rows.specs.Numbered.{sum_below}
use Rattle.rows.proofs.Numbered.{below-add, below-zeros, below-once}
use Rattle.model.specs.declared.Slice.{Slice}
use Rattle.slices.specs.JobSlices.{slices_for}

-- A row is counted for its own job alone.
pub count-jobs : (n : ℕ) (rows : List Slice) → All (λ (s : Slice). s.job < n) rows → sum_below n (λ (j : ℕ). slices_for j rows) ≡ length rows
count-jobs n [] h = below-zeros n
count-jobs n (s ∷ rows) h =
    omega (
      arith,
      below-add (λ (j : ℕ). cond (eqb s.job j) 1 0) (λ (j : ℕ). slices_for j rows) n,
      below-once s.job n 1 h.0,
      count-jobs n rows h.1,
    )
