-- `handler::meets` meets its contract: some earlier row collides. Assumes nothing.
use mathlib.Core.Path.{◌∙◌}
use native.Mathlib.Omega.{arith}
use lib.ListN.{take}
use Rattle.std.proofs.Common.{rules, tests}
use Rattle.std.proofs.lemmas.Grind.{common_steps}
use Rattle.std.proofs.lemmas.Iterator.{YieldsList-from_slice}
use Rattle.std.proofs.lemmas.Iterator.Search.{any_from_yields_List}
use Rattle.rows.specs.Upto.{at}
use Rattle.model.specs.Packed.{slice_in}
use Rattle.handler.specs.Check.{collides}
use Rattle.handler.proofs.Found.{any-meets}
use Rattle.handler.proofs.meets.Goals as goal

pub returns : goal.returns
returns c =
    let xs = c.args.rows.now in
    let i = c.args.later in
    any_from_yields_List (λ x. collides (slice_in (at xs i)) (slice_in x)) _ _ c.any.result c.any.ensures.ran
    (YieldsList-from_slice (take i xs) (grind (arith, common_steps))) (λ x b q k. search (rules, tests)) ∙
    any-meets xs i (omega arith)
