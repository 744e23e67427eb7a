-- `slices::moves_of` meets its contract: the first n rows, where n is above the rows of a table, are all of them. Assumes nothing.
use Rattle.std.proofs.Common.{◌≡◌, length, rules}
use Rattle.std.proofs.lemmas.List.{take_min}
use Rattle.model.specs.Limits.{slices_most}
use Rattle.slices.proofs.moves_of.Goals as goal

pub returns : goal.returns
returns c =
    let full : slices_most ≡ length c.args.rows = search rules in
    rw (c.count_moves.ensures, c.min.ensures, full, take_min c.args.n c.args.rows)
