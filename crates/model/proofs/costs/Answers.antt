-- `model::costs` meets its contract: a row more is filled, and where all are, they are those of the jobs asked for. Assumes nothing.
use mathlib.Core.List.{List}
use Prim.Native.Nat.{◌+◌, ◌≤◌}
use native.Mathlib.Omega.{arith}
use lib.ListN.{length, take}
use lib.Seq.{take_all}
use Rattle.std.proofs.lemmas.List.{take_min, length-take, length-take-le}
use Rattle.rows.proofs.Walk.{fill_one}
use Rattle.model.specs.Columns.{job_both, cost_on}
use Rattle.model.specs.Limits.{jobs_most}
use Rattle.model.specs.declared.Job.{Job}
use Rattle.model.proofs.costs.Goals as goal

pub loop-i-preserved : goal.loop-i-preserved
loop-i-preserved c =
    let a = c.args in
    let l = c.loop-i in
    let jobs : List Job = take c.min-2.result (take c.min.result a.jobs.now) in
    let few : length jobs ≤ jobs_most = omega (arith, length-take {A = Job}) in
    rw (c.cost.ensures, l.invariant, length-take-le l.i jobs (omega arith), length-take-le (l.i + 1) jobs (omega arith))
    (fill_one (cost_on a.kind) jobs jobs_most l.i 0 (job_both 0 0) (omega arith) (omega arith))

pub returns : goal.returns
returns c =
    rw (c.loop-i.invariant, take_all c.loop-i.i (take c.min-2.result (take c.min.result c.args.jobs.now)) (omega arith), c.min-2.ensures, take_min, c.min.ensures, take_min)
