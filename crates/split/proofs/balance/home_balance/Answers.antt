-- `split::home_balance` meets its contract: a legal set's rooms and ticks are such as a signed number holds. Assumes nothing.
use mathlib.Core.Path.{◌∙◌}
use Prim.Native.Nat.{ℕ, ◌≤◌}
use native.Mathlib.Omega.{arith}
use Rattle.rows.proofs.Lists.{all_map}
use Rattle.model.specs.Limits.{window_most}
use Rattle.model.specs.declared.Job.{Job}
use Rattle.model.specs.declared.Job.TheVariants.{Both, OnlyFirst, OnlySecond}
use Rattle.legal.specs.Lawful.{LegalJob}
use Rattle.split.proofs.Answers.{jobs_cut}
use Rattle.split.proofs.home.Homes.{home-there}
use Rattle.split.proofs.balance.Signed.{kept-sub, room_fits}
use Rattle.split.proofs.balance.home_balance.Goals as goal

longer : (w : ℕ) → w ≤ window_most → (j : Job) → LegalJob w j → LegalJob window_most j
longer w few (Both c1 c2) legal = omega arith
longer w few (OnlyFirst c1) legal = omega arith
longer w few (OnlySecond c2) legal = omega arith

pub go_home-ticks-requires-clause-all : goal.go_home-ticks-requires-clause-all
go_home-ticks-requires-clause-all c =
    rw (jobs_cut c.args.n c.args.first.now c.args.second.now (omega arith))
    (all_map _ _ (longer c.args.board.window c.requires.window-most) _ c.requires.jobs)

pub less-requires : goal.less-requires
less-requires c = (rw c.room.ensures (room_fits _ _ _ _ c.requires), omega arith)

pub less-requires-2 : goal.less-requires-2
less-requires-2 c = (rw c.room-2.ensures (room_fits _ _ _ _ c.requires), omega arith)

pub returns-clause-first : goal.returns-clause-first
returns-clause-first c =
    rw (← jobs_cut c.args.n c.args.first.now c.args.second.now (omega arith))
    (kept-sub c.less.type_inv c.less.ensures c.room.ensures c.go_home-ticks.ensures.sums.here)

pub returns-clause-second : goal.returns-clause-second
returns-clause-second c =
    rw (← jobs_cut c.args.n c.args.first.now c.args.second.now (omega arith))
    (kept-sub c.less-2.type_inv c.less-2.ensures c.room-2.ensures (c.go_home-ticks.ensures.sums.there ∙ home-there _))
