-- The contracts of this crate determine their results: each is taken back from what it says, and every lent byte is told.
--   packed_tick ↦ packed-tick-once
--   pack_table ↦ pack-table-once, the answer with the lent bytes after the call
-- Assumes nothing.
use mathlib.Core.Path.{◌≡◌, sym, ◌∙◌}
use Rattle.model.proofs.Determined.{Determines, result-once}
use Rattle.packed.proofs.packed_tick
use Rattle.packed.specs.contracts.packed_tick as packed_tick_contract
use Rattle.packed.proofs.pack_table
use Rattle.packed.specs.contracts.pack_table as pack_table_contract

pub packed-tick-once : Determines packed_tick_contract.ended packed_tick.Reads.Learnt
packed-tick-once κs args r s p q =
    let answer : r.0 ≡ s.0 = result-once _ r.0 s.0 p q in
    λ i. (answer i, r.1)

pub pack-table-once : Determines pack_table_contract.ended pack_table.Reads.Learnt
pack-table-once κs args r s p q =
    let answer : r.0 ≡ s.0 = result-once _ r.0 s.0 p.says q.says in
    λ i. (answer i, (tt, (tt, ((p.bytes ∙ sym q.bytes) i, tt))))
