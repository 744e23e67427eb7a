-- `clampfern::plan_text` meets its contract: what was read is planned, and what was refused has its line. Assumes nothing.
use native.Mathlib.Omega.{arith}
use Rattle.clampfern.proofs.Lines.{read-planned, read-place}
use Rattle.clampfern.proofs.plan_text.Goals as goal

pub write_refused-requires : goal.write_refused-requires
write_refused-requires c = omega (arith, read-place _ c.read.ensures c.in-Err.is)

pub returns-in-Ok : goal.returns-in-Ok
returns-in-Ok c = rw (← (read-planned _ c.read.ensures c.in-Ok.is)) c.answer_in.ensures
