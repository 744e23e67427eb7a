-- `planner::rows_of` meets its contract: each row is the slice of its number. Assumes nothing.
use Prim.Native.Nat.{ℕ, ◌<◌}
use mathlib.Core.Path.{◌≡◌, sym, ◌∙◌}
use mathlib.Core.List.{map}
use native.Mathlib.Omega.{arith}
use borrow.Author.Rules.{rules}
use lib.ListN.{length, get_or, length-map, get_or-map}
use Rattle.std.proofs.lemmas.List.{same_lists, get_or_default}
use Rattle.model.specs.Packed.{slice_in}
use Rattle.model.specs.Limits.{slices_most}
use Rattle.model.specs.declared.Slice.{Slice}
use Rattle.planner.proofs.rows_of.Goals as goal

pub returns : goal.returns
returns c =
    let xs = c.args.slices in
    let items = c.map.ensures.items in
    let each : (k : ℕ) (d : Slice) → k < slices_most → get_or c.map.result k d ≡ slice_in (get_or xs k 0) =
    λ k d h. let x = items.at k 0 d h in search rules in
    let full : length xs ≡ slices_most = search rules in
    let size : length c.map.result ≡ slices_most = items.long in
    let same = length-map xs slice_in in
    same_lists c.map.result (map slice_in xs) (omega arith)
    (λ k d h. each k d (omega arith) ∙ sym (get_or_default (map slice_in xs) k d (slice_in 0) (omega arith) ∙ get_or-map slice_in xs k 0))
