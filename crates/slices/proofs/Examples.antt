-- Worked sets (docs/SPEC.md, "The slices", "Moves" and, at the end of "The text", the whole example): the table of the set with F(8) and of the
-- whole example, and the moves of a set where a share runs past the edge of a core. Assumes nothing.
use mathlib.Core.List.{[], ◌∷◌, map}
use mathlib.Core.Path.{◌≡◌, refl}
use Rattle.model.specs.Split.{share}
use Rattle.model.specs.declared.Kind.TheVariants.{First, Second}
use Rattle.model.proofs.BothSides.{row}
use Rattle.slices.specs.Moves.{moves, moves_of}
use Rattle.slices.specs.Table.{chosen, pieces_of, cut_of, packed, table_of}

pub eight : table_of 10 (share 4 6 ∷ share 4 6 ∷ share 4 6 ∷ share 8 0 ∷ [])
    ≡ row 0 First 0 0 4 ∷ row 1 First 0 4 4 ∷ row 2 First 0 8 2 ∷ row 2 First 1 0 2 ∷ row 3 First 1 2 8
    ∷ row 0 Second 0 4 6 ∷ row 1 Second 0 0 4 ∷ row 1 Second 1 8 2 ∷ row 2 Second 1 2 6 ∷ []
unfolding chosen pieces_of cut_of packed table_of
eight = refl

pub whole-example : table_of 10 (share 6 0 ∷ share 4 3 ∷ []) ≡ row 1 First 0 0 4 ∷ row 0 First 0 4 6 ∷ row 1 Second 0 7 3 ∷ []
unfolding chosen pieces_of cut_of packed table_of
whole-example = refl

pub edge-moves : map (moves_of (table_of 10 (share 6 0 ∷ share 6 0 ∷ []))) (0 ∷ 1 ∷ []) ≡ moves 0 0 ∷ moves 0 2 ∷ []
unfolding chosen pieces_of cut_of packed table_of
edge-moves = refl
