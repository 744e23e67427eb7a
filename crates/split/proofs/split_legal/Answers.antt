-- `split::split_legal` meets its contract: which kinds are over at home decides, as in the definition. Assumes nothing.
use native.Mathlib.Omega.{arith}
use Rattle.split.proofs.ByOver.{asks_first, asks_second, both_over, first_over, second_over, none_over}
use Rattle.split.proofs.split_legal.Goals as goal

pub relieve-requires-clause-ready : goal.relieve-requires-clause-ready
relieve-requires-clause-ready c = asks_first (omega arith) c.go_home-ticks.ensures _ c.requires.all

pub relieve-requires-in-false-true-clause-ready : goal.relieve-requires-in-false-true-clause-ready
relieve-requires-in-false-true-clause-ready c = asks_second (omega arith) c.go_home-ticks.ensures _ c.requires.all

pub returns-in-true-true : goal.returns-in-true-true
returns-in-true-true c = both_over (omega arith) c.go_home-ticks.ensures _ _ _ (omega arith) (omega arith)

pub returns-in-true-false : goal.returns-in-true-false
returns-in-true-false c =
    first_over (omega arith) c.go_home-ticks.ensures _ _ _ (omega arith) (omega arith) _ _ _
    (rw (c.room-room1.ensures, c.room-room2.ensures) at c.relieve.ensures)

pub returns-in-false-true : goal.returns-in-false-true
returns-in-false-true c =
    second_over (omega arith) c.go_home-ticks.ensures _ _ _ (omega arith) (omega arith) _ _ _
    (rw (c.room-room1.ensures, c.room-room2.ensures) at c.relieve-in-false-true.ensures)

pub returns-in-false-false : goal.returns-in-false-false
returns-in-false-false c = none_over (omega arith) c.go_home-ticks.ensures _ _ _ (omega arith) (omega arith)
