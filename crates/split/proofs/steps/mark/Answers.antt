-- `split::steps::mark` meets its contract: one row more is marked. Assumes nothing.
use native.Mathlib.Omega.{arith}
use Rattle.std.proofs.lemmas.Grind.{common_steps}
use Rattle.rows.proofs.Upto.{upto-more}
use Rattle.split.proofs.steps.mark.Goals as goal

pub loop-i-preserved : goal.loop-i-preserved
loop-i-preserved c = grind (arith, common_steps, upto-more)
