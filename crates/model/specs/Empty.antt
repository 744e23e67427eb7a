-- Internal: no public promise cites this. One empty value of each type of row and of job: what a list has past its end, where nothing looks.
--   no_job     a job that no set has: it costs nothing
--   no_share   a row of no ticks
--   no_slice   a slice of no length
-- Assumes nothing.
use Rattle.model.specs.Split.{share}
use Rattle.model.specs.ShareRow.{row_of}
use Rattle.model.specs.declared.Kind.TheVariants.{First}
use Rattle.model.specs.declared.Job.{Job}
use Rattle.model.specs.declared.Job.TheVariants.{OnlyFirst}
use Rattle.model.specs.declared.Share.{Share}
use Rattle.model.specs.declared.Slice.{Slice}

abbrev pub no_job : Job
no_job = OnlyFirst (record { 0 = 0 })

abbrev pub no_share : Share
no_share = row_of (share 0 0)

abbrev pub no_slice : Slice
no_slice = record { job = 0; kind = First; core = 0; start = 0; length = 0 }
