-- `split::steps::next_of` meets its contract. The invariant: the one found so far is the best of the rows passed, whatever their ticks.
-- Assumes nothing.
use mathlib.Core.List.{List}
use Prim.Native.Nat.{ℕ, ◌<◌}
use Rattle.split.proofs.steps.BestRow.{Leading}
use Rattle.split.proofs.steps.next_of.Given as goal

abbrev pub invariant-loop-i : goal.invariant-loop-i
invariant-loop-i l = (l.best < l.i) × ((here there : List ℕ) → Leading l.near l.far here there l.i l.best)
