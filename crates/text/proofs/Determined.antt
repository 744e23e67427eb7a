-- The contracts of this crate determine their results: each is taken back from what it says, and every byte of a lent text is told.
--   write_plan ↦ write-plan-once, write_refusal ↦ write-refusal-once, the answer with the lent text after the call
--   slice_record ↦ slice-record-once
-- Assumes nothing.
use mathlib.Core.List.{List}
use mathlib.Core.Path.{◌≡◌, sym, ◌∙◌}
use Prim.Native.Nat.{ℕ}
use Rattle.std.specs.Prelude.{Result}
use Rattle.model.specs.declared.Refusal.{Refusal}
use Rattle.model.proofs.Determined.{Determines, Once, result-once}
use Rattle.text.specs.Output.{Writes}
use Rattle.text.proofs.writer.write_plan
use Rattle.text.specs.contracts.writer.write_plan as write_plan_contract
use Rattle.text.proofs.writer.write_refusal
use Rattle.text.specs.contracts.writer.write_refusal as write_refusal_contract
use Rattle.text.proofs.writer.slice_record
use Rattle.text.specs.contracts.writer.slice_record as slice_record_contract

-- Lines that are written to a lent text: the answer, and the text after the call.
pub writes-once : (short : Refusal) (before lines : List ℕ) → Once (λ (r : Result ℕ Refusal × List ℕ). Writes short before r.1 lines r.0)
writes-once short before lines r s p q =
    let answer : r.0 ≡ s.0 = result-once _ r.0 s.0 p.says q.says in
    let text : r.1 ≡ s.1 = cc in
    λ i. (answer i, text i)

pub write-plan-once : Determines write_plan_contract.ended write_plan.Reads.Learnt
write-plan-once κs args r s p q =
    let same = writes-once _ _ _ (r.0, r.1.1.1.1.1.1.0) (s.0, s.1.1.1.1.1.1.0) p q in
    λ i. ((same i).0, (tt, (tt, (tt, (tt, (tt, ((same i).1, tt)))))))

pub write-refusal-once : Determines write_refusal_contract.ended write_refusal.Reads.Learnt
write-refusal-once κs args r s p q =
    let same = writes-once _ _ _ (r.0, r.1.1.1.0) (s.0, s.1.1.1.0) p q in
    λ i. ((same i).0, (tt, (tt, ((same i).1, tt))))

pub slice-record-once : Determines slice_record_contract.ended slice_record.Reads.Learnt
slice-record-once κs args r s p q i = ((p ∙ sym q) i, r.1)
