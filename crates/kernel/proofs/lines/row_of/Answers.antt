-- `kernel::lines::row_of` meets its contract: at each answer, what the line says, and whether its job is below the number, decide. Assumes nothing.
use mathlib.Core.Path.{sym, ◌∙◌}
use Rattle.std.proofs.lemmas.Result.{err_from_is_err_and}
use Rattle.kernel.proofs.lines.row_of.Goals as goal

pub returns-in_err-said : goal.returns-in_err-said
returns-in_err-said c =
    let p = err_from_is_err_and c.from_residual.result c.from_residual.ensures.1 in
    record { is = λ rest from at. rw (p.1, p.2, ← (c.in_err-said.ensures.is rest from at)) }

pub returns-then-not-has_job : goal.returns-then-not-has_job
returns-then-not-has_job c =
    record { is = λ rest from at. rw (← (c.in_ok-said.ensures.is rest from at), sym c.has_job.ensures ∙ c.if-not-has_job.true) }

pub returns : goal.returns
returns c =
    record { is = λ rest from at. rw (← (c.in_ok-said.ensures.is rest from at), sym c.has_job.ensures ∙ c.if-not-has_job.false) c.in_place.ensures }
