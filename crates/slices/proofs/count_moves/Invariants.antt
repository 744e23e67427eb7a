-- `slices::count_moves` meets its contract. The invariant: each count is that of the rows so far. Assumes nothing.
use Rattle.std.proofs.Common.{◌≡◌, take}
use Rattle.std.specs.List.{count_by}
use Rattle.slices.specs.Moves.{is_outer, is_inner, counted}
use Rattle.slices.proofs.count_moves.Given as goal

abbrev pub invariant-loop-s : goal.invariant-loop-s
invariant-loop-s l =
    (l.outer ≡ count_by (counted is_outer l.rows l.job) (take l.s-index l.rows)) ×
    (l.inner ≡ count_by (counted is_inner l.rows l.job) (take l.s-index l.rows))
