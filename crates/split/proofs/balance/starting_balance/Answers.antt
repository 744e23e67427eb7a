-- `split::starting_balance` meets its contract: the balance of the columns is that of the jobs. Assumes nothing.
use mathlib.Core.Path.{◌≡◌, sym, ◌∙◌}
use mathlib.Core.List.{List}
use Prim.Native.Nat.{ℕ}
use native.Mathlib.Omega.{arith}
use borrow.Author.Rules.{rules}
use lib.ListN.{length, take}
use lib.Seq.{take_all}
use Rattle.std.specs.Prelude.{Result, Ok, Err, IsErrAnd}
use Rattle.model.specs.Columns.{jobs_in, costs}
use Rattle.model.specs.Limits.{jobs_most}
use Rattle.model.specs.Refusal.{says_refusal, says}
use Rattle.model.specs.declared.Kind.TheVariants.{First, Second}
use Rattle.model.specs.declared.Board.{Board}
use Rattle.model.specs.declared.Job.{Job}
use Rattle.model.specs.declared.Refusal.{Refusal}
use Rattle.legal.specs.Legal.{legal_of}
use Rattle.legal.proofs.Lawful.{legal-lawful}
use Rattle.split.specs.Shares.{balance_of}
use Rattle.split.specs.declared.balance.Balance.{Balance}
use Rattle.split.proofs.Seen.{balance-costs}
use Rattle.split.proofs.balance.starting_balance.Goals as goal

-- The balance of the two columns is that of the jobs.
same : (board : Board) (n : ℕ) (jobs : List Job) (c1 c2 : List ℕ) → length jobs ≡ jobs_most → c1 ≡ costs First (take n (take jobs_most jobs))
    → c2 ≡ costs Second (take n (take jobs_most jobs)) → balance_of board n (jobs_in n c1 c2) ≡ balance_of board n (take n jobs)
same board n jobs c1 c2 full e1 e2 = rw (e1, e2, take_all jobs_most jobs (omega arith)) (balance-costs board n jobs full)

-- What the checks refuse has no balance.
refused-balance : (board : Board) (n : ℕ) (js : List Job) (r : Result Balance Refusal) (e : Refusal) → IsErrAnd r (λ (x : Refusal). x ≡ e)
    → says_refusal e ≡ legal_of board n js → says r ≡ balance_of board n js
refused-balance board n js (Ok b) e is by = absurd is
refused-balance board n js (Err r) e is by = rw (is, ← by)

pub returns-in_err-check : goal.returns-in_err-check
returns-in_err-check c =
    let a = c.args in
    refused-balance a.board a.n (jobs_in a.n c.costs-first.result c.costs-second.result) _ _ c.from_residual.ensures.1 c.in_err-check.ensures
    ∙ same a.board a.n a.jobs c.costs-first.result c.costs-second.result (search rules) c.costs-first.ensures c.costs-second.ensures

pub home_balance-requires : goal.home_balance-requires
home_balance-requires c = legal-lawful _ _ _ (sym c.in_ok-check.ensures)

pub returns : goal.returns
returns c =
    let a = c.args in
    let e = same a.board a.n a.jobs c.costs-first.result c.costs-second.result (search rules) c.costs-first.ensures c.costs-second.ensures in
    rw (← e, ← c.in_ok-check.ensures) (search rules)
