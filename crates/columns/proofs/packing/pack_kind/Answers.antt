-- `packing::pack_kind` meets its contract: three passes fill the table as their pieces do together. Assumes nothing.
use mathlib.Core.Path.{ap}
use borrow.Author.Rules.{rules}
use Rattle.slices.specs.Table.{pieces_of}
use Rattle.columns.specs.Packing.{Filling}
use Rattle.columns.proofs.packing.Filling.{asks-part, asks_rest, stands-rest}
use Rattle.columns.proofs.packing.pack_kind.Goals as goal

pub pack-evens-requires-clause-asks : goal.pack-evens-requires-clause-asks
unfolding pieces_of
pack-evens-requires-clause-asks c = asks-part _ _ _ _ c.requires.asks

pub pack-movers-requires-clause-asks : goal.pack-movers-requires-clause-asks
unfolding pieces_of
pack-movers-requires-clause-asks c = asks-part _ _ _ _ (asks_rest _ _ _ _ c.pack-evens.ensures c.requires.asks (search rules))

pub pack-all-requires-clause-asks : goal.pack-all-requires-clause-asks
unfolding pieces_of
pack-all-requires-clause-asks c =
    asks_rest _ _ _ _ c.pack-movers.ensures (asks_rest _ _ _ _ c.pack-evens.ensures c.requires.asks (search rules)) (search rules)

pub returns : goal.returns
unfolding pieces_of
returns c =
    let all = stands-rest _ _ _ _ c.pack-evens.ensures (stands-rest _ _ _ _ c.pack-movers.ensures c.pack-all.ensures) in
    record { rows = ap (λ (t : Filling). t.rows) all.is; count = ap (λ (t : Filling). t.count) all.is }
