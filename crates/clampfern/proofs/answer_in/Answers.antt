-- `clampfern::answer_in` meets its contract: the columns that it owns are long enough for every set, so what was planned has the lines of its plan.
-- Assumes nothing.
use native.Mathlib.Omega.{arith}
use Rattle.rows.proofs.Upto.{upto-length}
use Rattle.clampfern.proofs.Lines.{columns-planned, columns-place}
use Rattle.clampfern.proofs.answer_in.Goals as goal

pub write_refused-requires : goal.write_refused-requires
write_refused-requires c = omega (arith, columns-place c.plan_columns-planned.ensures (upto-length _ _) c.in-Err.is)

pub returns-in-Ok : goal.returns-in-Ok
returns-in-Ok c = rw (← (columns-planned c.plan_columns-planned.ensures (upto-length _ _) c.in-Ok.is)) c.write_plan.ensures
