-- Internal: no public promise cites this. The contract of the private function `lowest_failing` does.
--   Computes   what calls of a function give is what a check says of a job
-- Assumes nothing.
use Rattle.std.specs.Prelude.{◌≡◌, Bool}
use Rattle.model.specs.declared.Job.{Job}

abbrev pub Computes : (Job → Bool → Type 0) → (Job → Bool) → Type 0
Computes gives check = (job : Job) (failed : Bool) → gives job failed → failed ≡ check job
