-- `legal::lowest_failing` meets its contract: the chain gives the jobs of the columns, of which `position` takes the first that fails.
-- Assumes nothing.
use mathlib.Core.Path.{◌∙◌, ap}
use Rattle.std.proofs.Common.{rules, of_calls, position}
use Rattle.std.proofs.lemmas.Iterator.{YieldsList-from_slice, YieldsList-from_zip, YieldsList-from_take, YieldsList-from_map}
use Rattle.std.proofs.lemmas.Iterator.Search.{position_from_yields_List}
use Rattle.rows.proofs.Upto.{upto-zip}
use Rattle.model.specs.Columns.{job_at}
use Rattle.legal.proofs.lowest_failing.Goals as goal

pub returns-clause-lowest : goal.returns-clause-lowest
returns-clause-lowest g c check computes =
    let a = c.args in
    position_from_yields_List check c.position.new.self _ c.position.result c.position.ensures.ran
    (YieldsList-from_map _ (λ p. job_at p.0 p.1)
    (YieldsList-from_take a.n (YieldsList-from_zip (YieldsList-from_slice a.first.now (cc)) (YieldsList-from_slice a.second.now (cc))) (search rules))
    (search rules) (λ x r q k. search rules))
    (λ x b q k. search (rules, of_calls, computes, g.met.F.Fn.1, g.met.F.FnMut.1))
    ∙ ap (position check) (upto-zip job_at a.n a.first.now a.second.now (search rules) (search rules))
