-- `split::home::go_home` meets its contract: one job more goes home. Assumes nothing.
use native.Mathlib.Omega.{arith}
use Rattle.std.proofs.lemmas.Grind.{common_steps}
use Rattle.rows.proofs.Upto.{upto-more}
use Rattle.split.specs.Rows.{Row}
use Rattle.split.proofs.home.GoingHome.{home-more}
use Rattle.split.proofs.home.go_home.Goals as goal

pub loop-i-preserved : goal.loop-i-preserved
loop-i-preserved c =
    let a = c.args in (
      grind (arith, common_steps, upto-more),
      grind (arith, common_steps, upto-more),
      grind (arith, home-more (λ (r : Row). r.here) a.first.now a.second.now c.loop-i.i),
      grind (arith, home-more (λ (r : Row). r.there) a.first.now a.second.now c.loop-i.i),
      omega arith,
      omega arith,
    )
