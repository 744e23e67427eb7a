-- `packing::put_job` meets its contract: a job that the pass places is one piece, and any other none. Assumes nothing.
use mathlib.Core.Path.{refl, sym, ◌∙◌}
use native.Mathlib.Omega.{arith}
use Rattle.columns.specs.Packing.{filling_of}
use Rattle.columns.proofs.packing.Filling.{job-in, job-out}
use Rattle.columns.proofs.packing.put_job.Goals as goal

pub put_run-requires : goal.put_run-requires
put_run-requires c =
    let a = c.args in
    let piece = job-in a.class a.kind a.w a.job a.mine a.other (filling_of a.w a.slices.now a.p) (sym (rw (c.from-ticks.ensures, c.from.ensures) at c.is_in.ensures) ∙ c.if-is_in.true) in
    (c.requires.0, omega arith, rw c.from-ticks.ensures (rw piece at c.requires.2))

pub returns-then-is_in : goal.returns-then-is_in
returns-then-is_in c = rw (job-in _ _ _ _ _ _ _ (sym (rw (c.from-ticks.ensures, c.from.ensures) at c.is_in.ensures) ∙ c.if-is_in.true)) (rw c.from-ticks.ensures at c.put_run.ensures)

pub returns : goal.returns
returns c =
    rw (job-out _ _ _ _ _ _ _ (sym (rw (c.from-ticks.ensures, c.from.ensures) at c.is_in.ensures) ∙ c.if-is_in.false))
    (record { is = refl; inside = c.requires.2.inside })
