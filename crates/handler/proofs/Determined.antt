-- The contracts of this crate determine their results, which are taken back from what they say.
--   check_table ↦ check-table-once, is_beyond ↦ is-beyond-once, job_at ↦ job-at-once
--   moved_on ↦ moved-on-once
--   move_on ↦ move-on-once, the answer with the lent position after the call
-- Assumes nothing.
use mathlib.Core.Path.{◌≡◌, refl, sym, ◌∙◌}
use borrow.Fn.Claims.{AllOf}
use borrow.Fn.Read.{Read, no_know, all_models, r_last}
use base.Logic.{emp}
use contract.Lifetimes.{Lfts}
use denote.Triple.Clauses.{AtExit}
use denote.Triple.Entry.{Args}
use Rattle.std.specs.Prelude.{Result}
use Rattle.model.specs.declared.Refusal.{Refusal}
use Rattle.model.proofs.Determined.{Determines, result-once}
use Rattle.handler.proofs.check_table
use Rattle.handler.specs.contracts.check_table as check_table_contract
use Rattle.handler.proofs.is_beyond
use Rattle.handler.specs.contracts.is_beyond as is_beyond_contract
use Rattle.handler.proofs.job_at
use Rattle.handler.specs.contracts.job_at as job_at_contract
use Rattle.handler.proofs.moved_on
use Rattle.handler.specs.contracts.moved_on as moved_on_contract
use Rattle.handler.specs.contracts.move_on as move_on_contract

pub check-table-once : Determines check_table_contract.ended check_table.Reads.Learnt
check-table-once κs args r s p q i = (result-once _ r.0 s.0 p q i, r.1)

pub is-beyond-once : Determines is_beyond_contract.ended is_beyond.Reads.Learnt
is-beyond-once κs args r s p q i = ((p ∙ sym q) i, r.1)

pub job-at-once : Determines job_at_contract.ended job_at.Reads.Learnt
job-at-once κs args r s p q i = (result-once _ r.0 s.0 p q i, r.1)

pub moved-on-once : Determines moved_on_contract.ended moved_on.Reads.Learnt
moved-on-once κs args r s p q i = (result-once _ r.0 s.0 p q i, r.1)

-- A function that takes a reference to a record has no generated reading. This one is made as those are, of the contract's own clause.
module _ (κs : Lfts 1) (args : Args move_on_contract.signature κs) (r : Result (Unit {0}) Refusal) (last : AtExit move_on_contract.ended κs) where
  abbrev move-on-read : Read (λ w. emp w.𝓤) no_know
      (λ w. (move_on_contract.clauses w.𝓛 w.𝓜.mem w.𝓡.run κs args).ensures tt r last)
  move-on-read = all_models _ (λ w. r_last _) (λ w. refl) (λ w. refl) (λ w. refl)

  abbrev move_on_learnt : Type 0
  move_on_learnt = AllOf move-on-read.tells

pub move-on-once : Determines move_on_contract.ended move_on_learnt
move-on-once κs args r s p q =
    let moved : r.0 ≡ s.0 = result-once _ r.0 s.0 p.says q.says in
    let tick : r.1.1.0.tick ≡ s.1.1.0.tick = p.position ∙ sym q.position in
    λ i. (moved i, (tt, (record { tick = tick i }, tt)))
