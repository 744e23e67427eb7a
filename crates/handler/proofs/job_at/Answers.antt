-- `handler::job_at` meets its contract: what runs is the job of the first row that is there. Assumes nothing.
use mathlib.Core.Path.{◌≡◌}
use Rattle.std.proofs.Common.{rules}
use Rattle.std.specs.Option.{option_map}
use Rattle.model.specs.declared.Slice.{Slice}
use Rattle.handler.proofs.Found.{first-runs}
use Rattle.handler.proofs.job_at.Goals as goal

pub returns : goal.returns
returns c =
    let a = c.args in
    let job : c.map.result ≡ option_map (λ (s : Slice). s.job) c.row_at.result = search rules in
    rw (← c.in_ok-check_table.ensures, ← c.if-is_beyond.ensures, first-runs, job, c.row_at.ensures)
