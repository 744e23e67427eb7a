-- The steps from a kind that is over at home, over columns whose near costs were marked, and the answer where they are over. Assumes nothing.
use mathlib.Core.Path.{◌≡◌, refl, sym, ap, ◌∙◌}
use mathlib.Core.Bool.{Bool, true, false, cond}
use mathlib.Core.List.{List, map}
use Prim.Native.Nat.{ℕ}
use lib.Dec.{leb}
use lib.ListN.{length}
use Rattle.std.specs.Prelude.{Result}
use Rattle.rows.proofs.Upto.{upto-map}
use Rattle.model.specs.Board.{on}
use Rattle.model.specs.Refusal.{given}
use Rattle.model.specs.Split.{Ticks}
use Rattle.model.specs.Columns.{shares_in}
use Rattle.model.specs.declared.Kind.{Kind}
use Rattle.model.specs.declared.Kind.TheVariants.{First, Second}
use Rattle.model.specs.declared.Refusal.{Refusal}
use Rattle.split.specs.Steps.{here_sum, there_sum, steps_of}
use Rattle.split.specs.Shares.{share_of, shares_seen, still_over, other_over, settled}
use Rattle.split.specs.Columns.{row_in, rows_in, bare, marks_in, marked, says_ended, ended_of, Stepped}
use Rattle.split.specs.Rows.{Row}
use Rattle.split.specs.declared.Sums.{Sums}
use Rattle.split.proofs.steps.Bare.{bare-here, bare-there, shares-bare}

seen-shares : (k : Kind) (n : ℕ) (near far here there : List ℕ) → shares_in n (on k here there) (on k there here) ≡ shares_seen k (rows_in n near far here there)
seen-shares First n near far here there = sym (upto-map (share_of First) n (row_in near far here there))
seen-shares Second n near far here there = sym (upto-map (share_of Second) n (row_in near far here there))

-- The two tests, one after the other.
picks : (k : Kind) (p q : Bool) (n : ℕ) (s1 s2 : List ℕ) (ss : List Ticks) → shares_in n s1 s2 ≡ ss
    → says_ended (ended_of k p q) n s1 s2 ≡ cond p (cond q (given ss) other_over) (still_over k)
picks k true true n s1 s2 ss e = ap given e
picks k true false n s1 s2 ss e = refl
picks k false q n s1 s2 ss e = refl

module _ (k : Kind) {w room : ℕ} (away : ℕ) {near far here there near' here' there' : List ℕ} {sums : Sums} {ended : Result (Unit {0}) Refusal}
    (marks : near ≡ marks_in (length far) far here) (steps : Stepped w room near far here there near' here' there' sums)
    (is : ended ≡ ended_of k (leb sums.here room) (leb sums.there away)) where
  abbrev stopped : List Row
  stopped = steps_of (length far) w room (marked far here there)

  stopped-rows : rows_in (length far) near' far here' there' ≡ map bare stopped
  stopped-rows = rw marks at steps.rows

  stopped-here : sums.here ≡ here_sum stopped
  stopped-here = steps.sum-here ∙ ap here_sum stopped-rows ∙ bare-here stopped

  stopped-there : sums.there ≡ there_sum stopped
  stopped-there = steps.sum-there ∙ ap there_sum stopped-rows ∙ bare-there stopped

  pub relieves : says_ended ended (length far) (on k here' there') (on k there' here') ≡ settled k room away stopped
  unfolding settled
  relieves =
      rw (is, ← stopped-here, ← stopped-there)
      (picks k (leb sums.here room) (leb sums.there away) (length far) _ _ _
      (seen-shares k (length far) near' far here' there' ∙ ap (shares_seen k) stopped-rows ∙ shares-bare k stopped))
