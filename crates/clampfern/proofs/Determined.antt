-- The contracts of this crate determine their results: the answer, with every byte of the lent text after the call, or of the array by value.
--   plan_text ↦ plan-text-once, clampfern_plan ↦ clampfern-plan-once, answer ↦ answer-once
--   clampfern_tick ↦ clampfern-tick-once, clampfern_pack ↦ clampfern-pack-once, clampfern_packed_tick ↦ clampfern-packed-tick-once
-- Assumes nothing.
use mathlib.Core.Path.{◌≡◌}
use Rattle.model.proofs.Determined.{Determines}
use Rattle.text.proofs.Determined.{writes-once}
use Rattle.clampfern.proofs.plan_text
use Rattle.clampfern.specs.contracts.plan_text as plan_text_contract
use Rattle.clampfern.proofs.clampfern_plan
use Rattle.clampfern.specs.contracts.clampfern_plan as clampfern_plan_contract
use Rattle.clampfern.proofs.answer
use Rattle.clampfern.specs.contracts.answer as answer_contract
use Rattle.clampfern.proofs.entries.clampfern_tick
use Rattle.clampfern.specs.contracts.entries.clampfern_tick as clampfern_tick_contract
use Rattle.clampfern.proofs.entries.clampfern_pack
use Rattle.clampfern.specs.contracts.entries.clampfern_pack as clampfern_pack_contract
use Rattle.clampfern.proofs.entries.clampfern_packed_tick
use Rattle.clampfern.specs.contracts.entries.clampfern_packed_tick as clampfern_packed_tick_contract

pub plan-text-once : Determines plan_text_contract.ended plan_text.Reads.Learnt
plan-text-once κs args r s p q =
    let same = writes-once _ _ _ (r.0, r.1.1.0) (s.0, s.1.1.0) p q in
    λ i. ((same i).0, (tt, ((same i).1, tt)))

pub clampfern-plan-once : Determines clampfern_plan_contract.ended clampfern_plan.Reads.Learnt
clampfern-plan-once κs args r s p q =
    let count : r.0 ≡ s.0 = cc in
    let out : r.1.1.0 ≡ s.1.1.0 = cc in
    λ i. (count i, (tt, (out i, tt)))

pub answer-once : Determines answer_contract.ended answer.Reads.Learnt
answer-once κs args r s p q =
    let size : r.0.size ≡ s.0.size = cc in
    let bytes : r.0.bytes ≡ s.0.bytes = cc in
    λ i. (record { bytes = bytes i; size = size i }, r.1)

pub clampfern-tick-once : Determines clampfern_tick_contract.ended clampfern_tick.Reads.Learnt
clampfern-tick-once κs args r s p q =
    let code : r.0 ≡ s.0 = cc in
    λ i. (code i, r.1)

pub clampfern-pack-once : Determines clampfern_pack_contract.ended clampfern_pack.Reads.Learnt
clampfern-pack-once κs args r s p q =
    let count : r.0 ≡ s.0 = cc in
    let table : r.1.1.0 ≡ s.1.1.0 = cc in
    λ i. (count i, (tt, (table i, tt)))

pub clampfern-packed-tick-once : Determines clampfern_packed_tick_contract.ended clampfern_packed_tick.Reads.Learnt
clampfern-packed-tick-once κs args r s p q =
    let code : r.0 ≡ s.0 = cc in
    λ i. (code i, r.1)
