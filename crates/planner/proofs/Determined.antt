-- The contracts of this crate determine their results: the answer is taken back from what it says (crate model), and every row is told.
--   moves ↦ moves-once
--   plan ↦ plan-once, the answer with both lent tables after the call
-- Assumes nothing.
use mathlib.Core.List.{List}
use mathlib.Core.Path.{◌≡◌, ap}
use Prim.Native.Nat.{ℕ}
use Rattle.std.specs.Prelude.{Ok, Err}
use Rattle.rows.proofs.Never.{never}
use Rattle.model.specs.Refusal.{number_of, place_of}
use Rattle.model.proofs.Determined.{Determines, Once, refusal-once, result-once}
use Rattle.model.specs.declared.Board.{Board}
use Rattle.model.specs.declared.Job.{Job}
use Rattle.planner.specs.PlanMoves.{MovesPromised}
use Rattle.planner.proofs.plan
use Rattle.planner.specs.contracts.plan as plan_contract
use Rattle.planner.proofs.moves
use Rattle.planner.specs.contracts.moves as moves_contract

answer-once : (board : Board) (n : ℕ) (js : List Job) → Once (MovesPromised board n js)
answer-once board n js (Ok r) (Ok s) p q =
    let counts : r.counts ≡ s.counts = cc in
    let moves : r.moves ≡ s.moves = cc in
    λ i. Ok (record { counts = counts i; moves = moves i })
answer-once board n js (Err e) (Err f) p q =
    let number : number_of e ≡ number_of f = cc in
    let place : place_of e ≡ place_of f = cc in
    ap Err (refusal-once e f number place)
answer-once board n js (Ok r) (Err f) p q = never (cc)
answer-once board n js (Err e) (Ok s) p q = never (cc)

pub moves-once : Determines moves_contract.ended moves.Reads.Learnt
moves-once κs args r s p q i = (answer-once _ _ _ r.0 s.0 p q i, r.1)

pub plan-once : Determines plan_contract.ended plan.Reads.Learnt
plan-once κs args r s p q =
    let answer : r.0 ≡ s.0 = result-once _ r.0 s.0 p.answer q.answer in
    let shares : r.1.1.1.0 ≡ s.1.1.1.0 = cc in
    let slices : r.1.1.1.1.0 ≡ s.1.1.1.1.0 = cc in
    λ i. (answer i, (tt, (tt, (shares i, (slices i, tt)))))
