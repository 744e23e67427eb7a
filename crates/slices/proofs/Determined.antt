-- The contract of this crate's function determines its result, by an equation: moves_of ↦ moves-of-once. Assumes nothing.
use mathlib.Core.Path.{sym, ◌∙◌}
use Rattle.model.proofs.Determined.{Determines}
use Rattle.slices.proofs.moves_of
use Rattle.slices.specs.contracts.moves_of as moves_of_contract

pub moves-of-once : Determines moves_of_contract.ended moves_of.Reads.Learnt
moves-of-once κs args r s p q i = ((p ∙ sym q) i, r.1)
