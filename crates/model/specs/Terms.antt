-- Internal: no public promise cites this. Terms in which laws and proofs speak of kinds, of columns and of slices as numbers.
--   other    the kind that a kind is not
--   seen     the job that its two costs in columns are
--   ticks    the column of a kind: the ticks of each share, and 0 behind
--   Narrow   a slice whose fields fit the bytes that the record has for them
-- Assumes nothing.
use Rattle.std.specs.Prelude.{List, ◌++◌, map, ℕ, ◌-◌, ◌<◌, length, replicate}
use Rattle.model.specs.Columns.{job_at, cost_on}
use Rattle.model.specs.Limits.{jobs_most}
use Rattle.model.specs.Split.{Ticks, ticks_on}
use Rattle.model.specs.declared.Kind.{Kind}
use Rattle.model.specs.declared.Kind.TheVariants.{First, Second}
use Rattle.model.specs.declared.Job.{Job}
use Rattle.model.specs.declared.Slice.{Slice}

abbrev pub other : Kind → Kind
other First = Second
other Second = First

abbrev pub seen : Job → Job
seen j = job_at (cost_on First j) (cost_on Second j)

abbrev pub ticks : Kind → List Ticks → List ℕ
ticks k ss = map (ticks_on k) ss ++ replicate (jobs_most - length ss) 0

pub record Narrow (s : Slice) : Type 0 where
  pub job : s.job < 256
  pub core : s.core < 256
  pub start : s.start < 65536
  pub length : s.length < 65536
