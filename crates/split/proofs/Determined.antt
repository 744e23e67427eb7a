-- The contracts of this crate determine their results: each is taken back from what it says.
--   split ↦ split-once
--   starting_balance ↦ starting-balance-once
-- Assumes nothing.
use mathlib.Core.List.{List, ◌++◌}
use mathlib.Core.Path.{◌≡◌, refl, sym, ap, ◌∙◌}
use Prim.Native.Nat.{ℕ, ◌-◌, ◌≤◌}
use native.Mathlib.Omega.{arith}
use borrow.Author.Rules.{rules}
use lib.ListN.{length, take, drop, replicate}
use contract.Lifetimes.{Lfts}
use Rattle.std.specs.Prelude.{Result, Ok, Err, IfOk}
use Rattle.rows.specs.Upto.{upto, at}
use Rattle.rows.proofs.Upto.{upto-length, upto-map, upto_take}
use Rattle.model.specs.Board.{on}
use Rattle.model.specs.Columns.{shares_in}
use Rattle.model.specs.Terms.{ticks}
use Rattle.model.specs.Limits.{jobs_most}
use Rattle.model.specs.Refusal.{Answer}
use Rattle.model.specs.Split.{Ticks, share, ticks_on}
use Rattle.model.specs.declared.Board.{Board}
use Rattle.model.specs.declared.Job.{Job}
use Rattle.model.specs.declared.Kind.{Kind}
use Rattle.model.specs.declared.Refusal.{Refusal}
use Rattle.model.specs.declared.Kind.TheVariants.{First, Second}
use Rattle.model.proofs.Determined.{Determines, Once, once, refusal-back, answer_of, result-once, rows_back}
use Rattle.split.specs.Promise.{Promised}
use Rattle.split.specs.Shares.{shares_of, says_shared, Padded}
use Rattle.split.specs.declared.Shares.{Shares}
use Rattle.split.proofs.split
use Rattle.split.specs.contracts.split as split_contract
use Rattle.split.proofs.balance.starting_balance
use Rattle.split.specs.contracts.balance.starting_balance as starting_balance_contract

-- As many shares as are given, in columns with zeros behind them.
abbrev shared_of : Answer (List Ticks) → Result Shares Refusal
shared_of = answer_of (λ ss. Ok (record { count = length ss; first = ticks First ss; second = ticks Second ss })) Err

module _ (n : ℕ) (s1 s2 : List ℕ) where
  size : length (shares_in n s1 s2) ≡ n
  size = upto-length n (λ i. share (at s1 i) (at s2 i))

  column-back : (kind : Kind) → length (on kind s1 s2) ≡ jobs_most → n ≤ jobs_most → drop n (on kind s1 s2) ≡ replicate (jobs_most - n) 0
      → ticks kind (shares_in n s1 s2) ≡ on kind s1 s2
  column-back kind full few rest =
      rw (size, upto-map (ticks_on kind) n (λ i. share (at s1 i) (at s2 i)))
      (ap (λ (l : List ℕ). l ++ replicate (jobs_most - n) 0) (of-kind kind full) ∙ (rows_back (on kind s1 s2) n jobs_most 0 full few rest).1)
    where
      of-kind : (k : Kind) → length (on k s1 s2) ≡ jobs_most → upto n (λ i. ticks_on k (share (at s1 i) (at s2 i))) ≡ take n (on k s1 s2)
      of-kind First e = upto_take n s1 (omega arith)
      of-kind Second e = upto_take n s2 (omega arith)

-- Both columns have their rows.
abbrev Full : Shares → Type 0
Full s = (length s.first ≡ jobs_most) × (length s.second ≡ jobs_most)

shared_back : (r : Result Shares Refusal) → IfOk r Full → IfOk r Padded → shared_of (says_shared r) ≡ r
shared_back (Ok s) full rest =
    rw (
      column-back s.count s.first s.second First full.0 rest.few rest.rest1,
      column-back s.count s.first s.second Second full.1 rest.few rest.rest2,
      size s.count s.first s.second,
    )
shared_back (Err r) full rest = ap Err (refusal-back r)

shared-once : (board : Board) (n : ℕ) (js : List Job) → Once (λ (r : Result Shares Refusal). IfOk r Full × Promised board n js r)
shared-once board n js =
    once (shared_of (shares_of board n js))
    (λ r p. let a = p.1.answers in sym (shared_back r p.0 a.rest) ∙ ap shared_of a.says)

-- Beside the contract a caller is told what the result's type says: here, that each column has its rows.
full : (κs : Lfts split_contract.ended.signature.lifetimes) (r : Result Shares Refusal) → (split.Kinds.r).is.Ok κs r → IfOk r Full
full κs (Ok s) ok = (search (rules, ok), search (rules, ok))
full κs (Err r) ok = tt

pub split-once : Determines split_contract.ended (λ κs args r last. (split.Kinds.r).is.Ok κs r × split.Reads.Learnt κs args r last)
split-once κs args r s p q i = (shared-once _ _ _ r.0 s.0 (full κs r.0 p.0, p.1) (full κs s.0 q.0, q.1) i, r.1)

pub starting-balance-once : Determines starting_balance_contract.ended starting_balance.Reads.Learnt
starting-balance-once κs args r s p q i = (result-once _ r.0 s.0 p q i, r.1)
