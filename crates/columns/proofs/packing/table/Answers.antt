-- `packing::table` meets its contract: the two kinds, one behind the other, fill the column with the definition's rows. Assumes nothing.
use borrow.Author.Rules.{rules}
use Rattle.model.specs.declared.Kind.TheVariants.{First, Second}
use Rattle.columns.proofs.packing.TableFilled.{sized, first-asks, second-asks, table_filled}
use Rattle.columns.proofs.packing.table.Goals as goal

pub pack_kind-count-requires-clause-sized : goal.pack_kind-count-requires-clause-sized
pack_kind-count-requires-clause-sized c = sized _ _ _ c.requires.lengths.0 c.requires.table_asks First

pub pack_kind-count-requires-clause-asks : goal.pack_kind-count-requires-clause-asks
pack_kind-count-requires-clause-asks c = first-asks _ _ _ c.requires.lengths.0 c.requires.table_asks _ c.requires.lengths.1

pub pack_kind-requires-clause-sized : goal.pack_kind-requires-clause-sized
pack_kind-requires-clause-sized c = sized _ _ _ c.requires.lengths.0 c.requires.table_asks Second

pub pack_kind-requires-clause-asks : goal.pack_kind-requires-clause-asks
pack_kind-requires-clause-asks c =
    second-asks _ _ _ c.requires.lengths.0 c.requires.table_asks _ c.requires.lengths.1 _ _ c.pack_kind-count.ensures (search rules)

pub returns : goal.returns
returns c =
    table_filled _ _ _ c.requires.lengths.0 c.requires.table_asks _ c.requires.lengths.1 _ _ c.pack_kind-count.ensures _ _ c.pack_kind.ensures
