-- Internal: no public promise cites this. The theorems about moves do (proofs/JobMoves.antt).
--   slices_for   how many slices a job has
--   singles      how many of the jobs below n have exactly one
-- Assumes nothing.
use Rattle.std.specs.Prelude.{cond, List, ℕ, eqb}
use Rattle.rows.specs.Lists.{count_of}
use Rattle.rows.specs.Numbered.{sum_below}
use Rattle.model.specs.declared.Slice.{Slice}

abbrev pub slices_for : ℕ → List Slice → ℕ
slices_for job rows = count_of (λ (s : Slice). eqb s.job job) rows

abbrev pub singles : ℕ → List Slice → ℕ
singles n rows = sum_below n (λ (job : ℕ). cond (eqb (slices_for job rows) 1) 1 0)
