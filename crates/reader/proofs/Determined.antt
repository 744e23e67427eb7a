-- The contracts of this crate determine their results: each is taken back from what it says, and every row of a lent column is told.
--   read ↦ read-once, the answer with both columns after the call
--   cut_at ↦ cut-at-once
--   the board of a cut ↦ board-once
-- Assumes nothing.
use mathlib.Core.Path.{◌≡◌, sym, ◌∙◌}
use Rattle.model.proofs.Determined.{Determines, result-once}
use Rattle.reader.proofs.cut_at
use Rattle.reader.specs.contracts.cut_at as cut_at_contract
use Rattle.reader.proofs.read
use Rattle.reader.specs.contracts.read as read_contract
use Rattle.reader.proofs.Cut.board
use Rattle.reader.specs.contracts.Cut.board as board_contract

-- What is read: the answer, and both columns after the call.
pub read-once : Determines read_contract.ended read.Reads.Learnt
read-once κs args r s p q =
    let answer : r.0 ≡ s.0 = result-once _ r.0 s.0 p.says q.says in
    λ i. (answer i, (tt, ((p.first ∙ sym q.first) i, ((p.second ∙ sym q.second) i, tt))))

-- A line's cut: every field, also where it spells no bytes.
pub cut-at-once : Determines cut_at_contract.ended cut_at.Reads.Learnt
cut-at-once κs args r s p q i =
    (record { size = (p.size ∙ sym q.size) i; head = (p.head ∙ sym q.head) i; a = (p.a ∙ sym q.a) i; b = (p.b ∙ sym q.b) i; end = (p.end ∙ sym q.end) i }, r.1)

pub board-once : Determines board_contract.ended board.Reads.Learnt
board-once κs args r s p q i = ((p ∙ sym q) i, r.1)
