-- The contracts of this crate determine their results, and every lent byte.
--   tick ↦ tick-once
--   pack ↦ pack-once, the answer with the lent bytes after the call
-- Assumes nothing.
use mathlib.Core.List.{List}
use mathlib.Core.Path.{◌≡◌, sym, ◌∙◌}
use Prim.Native.Nat.{ℕ}
use Rattle.std.specs.Prelude.{Result}
use Rattle.model.specs.Refusal.{Answer, given, refused}
use Rattle.model.specs.declared.Refusal.{Refusal}
use Rattle.model.proofs.Determined.{Determines, Once, result-once}
use Rattle.kernel.specs.Handed.{Handed, handed_of, PacksFor}
use Rattle.kernel.proofs.tick
use Rattle.kernel.specs.contracts.tick as tick_contract
use Rattle.kernel.proofs.pack
use Rattle.kernel.specs.contracts.pack as pack_contract

pub tick-once : Determines tick_contract.ended tick.Reads.Learnt
tick-once κs args r s p q i = (result-once _ r.0 s.0 p q i, r.1)

-- What the lines are decides whether bytes may change.
packs-once : (answer : Answer Handed) (before : List ℕ) → Once (λ (r : Result ℕ Refusal × List ℕ). PacksFor answer before r.1 r.0)
packs-once (given h) before r s p q =
    let written : r.0 ≡ s.0 = result-once _ r.0 s.0 p.says q.says in
    λ i. (written i, (p.bytes ∙ sym q.bytes) i)
packs-once (refused number place) before r s p q =
    let written : r.0 ≡ s.0 = result-once _ r.0 s.0 p.0 q.0 in
    λ i. (written i, (p.1 ∙ sym q.1) i)

pub pack-once : Determines pack_contract.ended pack.Reads.Learnt
pack-once κs args r s p q =
    let same = packs-once (handed_of args.0.now) args.1.0.now (r.0, r.1.1.0) (s.0, s.1.1.0) p q in
    λ i. ((same i).0, (tt, ((same i).1, tt)))
