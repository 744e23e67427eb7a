-- The contract of this crate determines its result: the answer is taken back from what it says, and every number is told.
--   plan_columns ↦ columns-once, the answer with every number of each lent column after the call
-- Assumes nothing.
use mathlib.Core.Path.{◌≡◌}
use Rattle.model.proofs.Determined.{Determines, result-once}
use Rattle.columns.proofs.plan_columns
use Rattle.columns.specs.contracts.plan_columns as plan_columns_contract

pub columns-once : Determines plan_columns_contract.ended plan_columns.Reads.Learnt
columns-once κs args r s p q =
    let answer : r.0 ≡ s.0 = result-once _ r.0 s.0 p.says q.says in
    let first : r.1.1.1.1.1.0 ≡ s.1.1.1.1.1.0 = cc in
    let second : r.1.1.1.1.1.1.0 ≡ s.1.1.1.1.1.1.0 = cc in
    let slices : r.1.1.1.1.1.1.1.0 ≡ s.1.1.1.1.1.1.1.0 = cc in
    λ i. (answer i, (tt, (tt, (tt, (tt, (first i, (second i, (slices i, tt))))))))
