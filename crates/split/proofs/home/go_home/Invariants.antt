-- `split::home::go_home` meets its contract. The invariant: the jobs passed have gone home, and the sums are theirs and small enough to go on.
-- Assumes nothing.
use mathlib.Core.Path.{◌≡◌}
use Prim.Native.Nat.{◌*◌, ◌≤◌}
use lib.ListN.{take}
use Rattle.rows.specs.Upto.{upto}
use Rattle.model.specs.Columns.{jobs_in}
use Rattle.model.specs.declared.Kind.TheVariants.{First}
use Rattle.split.specs.Columns.{word_most, home_at}
use Rattle.split.specs.Shares.{home_rows}
use Rattle.split.specs.Steps.{here_sum, there_sum}
use Rattle.split.proofs.home.go_home.Given as goal

abbrev pub invariant-loop-i : goal.invariant-loop-i
invariant-loop-i l =
    (take l.i l.s1 ≡ upto l.i (λ k. (home_at First l.first l.second k).here)) × (take l.i l.s2 ≡ upto l.i (λ k. (home_at First l.first l.second k).there))
    × (l.here ≡ here_sum (home_rows First (jobs_in l.i l.first l.second))) × (l.there ≡ there_sum (home_rows First (jobs_in l.i l.first l.second)))
    × (l.here ≤ l.i * word_most) × (l.there ≤ l.i * word_most)
