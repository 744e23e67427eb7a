-- `columns::plan_columns` meets its contract: shares that are given can be placed, and all ways give what the definition does.
-- Assumes nothing.
use mathlib.Core.Path.{◌≡◌, sym, ap, subst, ◌∙◌}
use native.Mathlib.Omega.{arith}
use borrow.Author.Rules.{rules}
use lib.ListN.{length}
use Rattle.std.specs.Prelude.{Result, IfOk}
use Rattle.rows.proofs.Upto.{upto-length}
use Rattle.model.specs.Limits.{jobs_most}
use Rattle.model.specs.declared.Refusal.{Refusal}
use Rattle.split.specs.Shares.{says_shared, Padded}
use Rattle.split.specs.declared.Shares.{Shares}
use Rattle.columns.specs.Packing.{TableAsks}
use Rattle.columns.proofs.ColumnFronts.{shares-taken}
use Rattle.columns.proofs.PlanColumns.{columned-plan}
use Rattle.columns.proofs.PlanLaws.{table-asks}
use Rattle.columns.proofs.plan_columns.Goals as goal

pub table-slices-requires-clause-table_asks : goal.table-slices-requires-clause-table_asks
table-slices-requires-clause-table_asks c =
    let s = c.in_ok-shares.shares in
    let is = sym c.split.ensures.answers.says ∙ ap says_shared c.in_ok-shares.was in
    let padded = subst (λ (r : Result Shares Refusal). IfOk r Padded) c.in_ok-shares.was c.split.ensures.answers.rest in
    let all1 : length s.first ≡ jobs_most = search rules in
    let all2 : length s.second ≡ jobs_most = search rules in
    let same = shares-taken s.count s.first s.second (omega (arith, padded.few)) (omega (arith, padded.few)) in
    subst (TableAsks _) (sym same) (table-asks _ _ _ (upto-length _ _) is)

pub returns : goal.returns
returns c =
    let s = c.in_ok-shares.shares in
    let is = sym c.split.ensures.answers.says ∙ ap says_shared c.in_ok-shares.was in
    let padded = subst (λ (r : Result Shares Refusal). IfOk r Padded) c.in_ok-shares.was c.split.ensures.answers.rest in
    let all1 : length s.first ≡ jobs_most = search rules in
    let all2 : length s.second ≡ jobs_most = search rules in
    columned-plan _ _ _ _ _ _ s.count _ s.first s.second _ _ _ (omega (arith, padded.few)) (omega (arith, padded.few)) is (search rules) (search rules) (search rules)
    c.table-slices.ensures
