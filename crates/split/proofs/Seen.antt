-- The split and the starting balance of jobs are those of what their costs in columns are (legal/proofs/Seen.antt): the checks answer the same
-- of both, and jobs that they pass are what their costs are.
--   shares-read, balance-read     of jobs that were written into columns, also where too many are asked for
--   shares-seen                   of what the costs of any jobs are
--   shares-costs, balance-costs   of the first n of 64 jobs that were written into columns, where n may be above 64
-- Assumes nothing.
use mathlib.Core.Path.{◌≡◌, refl, ap}
use mathlib.Core.List.{List, map}
use Prim.Native.Nat.{ℕ, ◌≤◌}
use lib.ListN.{length, take}
use Rattle.model.specs.Board.{room_of}
use Rattle.model.specs.Columns.{jobs_in, costs}
use Rattle.model.specs.Terms.{seen}
use Rattle.model.specs.Limits.{jobs_most}
use Rattle.model.specs.Refusal.{Answer, given, refused, and_then}
use Rattle.model.specs.declared.Board.{Board}
use Rattle.model.specs.declared.Job.{Job}
use Rattle.model.specs.declared.Kind.TheVariants.{First, Second}
use Rattle.legal.specs.Legal.{legal_of}
use Rattle.legal.proofs.Seen.{legal-read, read_same, costs-read}
use Rattle.split.specs.Shares.{split_of, shares_of, balance_on, balance_of}

module _ (board : Board) (n : ℕ) where
  -- What is answered after the checks, where it is a function of the jobs.
  module _ (written js : List Job) (are : n ≤ jobs_most → written ≡ map seen js) where
    after : {A : Type 0} (f : List Job → Answer A)
        → and_then (legal_of board n written) (λ (_ : Unit {0}). f written) ≡ and_then (legal_of board n js) (λ (_ : Unit {0}). f js)
    after {A} f = rw (legal-read board n written js are) (go (legal_of board n js) refl)
      where
        go : (legal : Answer (Unit {0})) → legal_of board n js ≡ legal
            → and_then legal (λ (_ : Unit {0}). f written) ≡ and_then legal (λ (_ : Unit {0}). f js)
        go (given tt) e = ap f (read_same board n written js are e)
        go (refused number place) e = refl

    pub shares-read : shares_of board n written ≡ shares_of board n js
    shares-read = after (λ (js : List Job). split_of board.window (room_of board First) (room_of board Second) js)

    pub balance-read : balance_of board n written ≡ balance_of board n js
    balance-read = after (λ (js : List Job). given (record { first = balance_on board js First; second = balance_on board js Second }))

  pub shares-seen : (js : List Job) → shares_of board n (map seen js) ≡ shares_of board n js
  shares-seen js = shares-read (map seen js) js (λ _. refl)

  module _ (jobs : List Job) (full : length jobs ≡ jobs_most) where
    pub shares-costs : shares_of board n (jobs_in n (costs First (take n jobs)) (costs Second (take n jobs))) ≡ shares_of board n (take n jobs)
    shares-costs = shares-read _ (take n jobs) (costs-read n jobs full)

    pub balance-costs : balance_of board n (jobs_in n (costs First (take n jobs)) (costs Second (take n jobs))) ≡ balance_of board n (take n jobs)
    balance-costs = balance-read _ (take n jobs) (costs-read n jobs full)
