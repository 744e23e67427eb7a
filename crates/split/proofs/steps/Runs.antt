-- The steps over columns: what holds of the columns as they are now, with the steps that are left (`Runs`). A turn moves the row that was found, and
-- the rows of the columns after its stores are those after the step, but for near costs that are no longer needed. Assumes nothing.
use mathlib.Core.Path.{◌≡◌, refl, sym, ap, ◌∙◌}
use mathlib.Core.Bool.{Bool, true}
use mathlib.Core.List.{List}
use Prim.Native.Nat.{ℕ, suc, ◌+◌, ◌*◌, ◌≤◌, ◌<◌}
use native.Mathlib.Omega.{arith}
use lib.ListN.{length, set, length-set}
use lib.Seq.{get_or-set_same, get_or-set_other}
use Rattle.std.specs.Prelude.{Option, None, Some}
use Rattle.rows.specs.Upto.{at}
use Rattle.rows.specs.Lists.{sum_of}
use Rattle.rows.proofs.Upto.{upto-length, upto-at, upto-set}
use Rattle.split.specs.Home.{both_row}
use Rattle.split.specs.Steps.{here_sum, there_sum, next_of, moved_of, steps_of}
use Rattle.split.specs.Columns.{word_most, row_at, rows_in, bare, Found, Advanced, Stepped, sum_most, no_row, Movable, Ready, Asks, row_in, next_at}
use Rattle.split.specs.Rows.{Row, Next, Nobody, At}
use Rattle.split.specs.declared.Sums.{Sums}
use Rattle.split.proofs.steps.NextRow.{Leads, IsNext, next-law}
use Rattle.split.proofs.steps.Bare.{rows-bare, bare_set, bare-bare, moved-bare, Alike, alike-steps}
use Rattle.split.proofs.steps.OneStep.{moved-fits, moved-still}
use Rattle.split.proofs.steps.RowSums.{sum-set}
use Rattle.split.proofs.steps.StepByStep.{steps-within, steps-last, steps-nobody, Turn, turn-law}

-- Row i gets new ticks, and cannot be moved any more.
rows-set : (n : ℕ) (near far here there : List ℕ) (i h t : ℕ) → i < n → n ≤ length near → n ≤ length here → n ≤ length there
    → rows_in n (set near i 0) far (set here i h) (set there i t) ≡ set (rows_in n near far here there) i (row_at 0 (at far i) h t)
rows-set n near far here there i h t l ln lh lt =
    upto-set n _ _ i _ l
    (rw (get_or-set_same near i 0 0 (omega arith), get_or-set_same here i h 0 (omega arith), get_or-set_same there i t 0 (omega arith)))
    (λ k ne. rw (get_or-set_other near i k 0 0 ne, get_or-set_other here i k h 0 ne, get_or-set_other there i k t 0 ne))

-- A row that can be moved is at home, so that its costs say all of it.
home-row : (w : ℕ) (r : Row) → r.movable ≡ true → Movable w r → r ≡ both_row true r.near r.far
home-row w r m h = with-ticks r.near 0 true h.whole h.bare m
  where
    with-ticks : (a t : ℕ) (b : Bool) → r.here ≡ a → r.there ≡ t → r.movable ≡ b → ◌≡◌ {A = Row} r (record { near = r.near; far = r.far; here = a; there = t; movable = b })
    with-ticks a t b p q e = rw (← p, ← q, ← e)

pub record Runs (w room : ℕ) (near₀ far here₀ there₀ near here there : List ℕ) (sums : Sums) (left : ℕ) : Type 0 where
  pub size-near : length near ≡ length far
  pub size-here : length here ≡ length far
  pub size-there : length there ≡ length far
  pub ready : Ready w (rows_in (length far) near far here there)
  pub sum-here : sums.here ≡ here_sum (rows_in (length far) near far here there)
  pub sum-there : sums.there ≡ there_sum (rows_in (length far) near far here there)
  pub small-here : sums.here ≤ sum_most
  pub small-there : sums.there + left * word_most ≤ 2 * sum_most
  pub alike : Alike (steps_of left w room (rows_in (length far) near far here there)) (steps_of (length far) w room (rows_in (length far) near₀ far here₀ there₀))

module _ {w room : ℕ} {near₀ far here₀ there₀ near here there : List ℕ} {sums : Sums} {left : ℕ}
    (runs : Runs w room near₀ far here₀ there₀ near here there sums left) where
  abbrev rows : List Row
  rows = rows_in (length far) near far here there

  abbrev Ended : Type 0
  Ended = Stepped w room near₀ far here₀ there₀ near here there sums

  -- The end, where the steps that are left change nothing.
  ends : steps_of left w room rows ≡ rows → Ended
  ends e = record {
    rows = sym (rows-bare (length far) near far here there) ∙ rw e at runs.alike;
    sum-here = runs.sum-here;
    sum-there = runs.sum-there;
  }

  pub ends_last : left ≡ 0 → Ended
  ends_last e = ends (steps-last left w room _ e)

  pub ends_within : sums.here ≤ room → Ended
  ends_within h = ends (steps-within left w room _ (omega (arith, runs.sum-here)))

  module _ {found : Option ℕ} (found-by : Found near far found) where
    next : IsNext rows (next_of rows)
    next = next-law w rows runs.ready

    next-within : {k : ℕ} {r : Row} → Leads rows k r → k < length far
    next-within leads = omega (arith, leads.within, upto-length (length far) (row_in near far here there))

    pub ends_nobody : found ≡ None → Ended
    ends_nobody e = ends (steps-nobody left w room _ (go (next_of rows) (found-by.is here there)))
      where
        go : (x : Next) → found ≡ next_at x → x ≡ Nobody
        go Nobody p = refl
        go (At k r) p = cc

    -- A turn moves the row that was found.
    module _ (over : room < sums.here) {i : ℕ} (some : found ≡ Some i) where
      abbrev row : Row
      row = both_row true (at near i) (at far i)

      is-next : next_of rows ≡ At i row
      is-next = go (next_of rows) (found-by.is here there) next
        where
          go : (x : Next) → found ≡ next_at x → IsNext rows x → x ≡ At i row
          go Nobody p leads = cc
          go (At k r) p leads =
              let same : i ≡ k = cc in
              let is : r ≡ row_in near far here there k = sym leads.is ∙ upto-at (length far) _ no_row k (next-within leads) in
              let home : r ≡ both_row true r.near r.far = home-row w r leads.movable (rw leads.is at (runs.ready k leads.within (rw leads.is leads.movable))) in
              rw (same, ← ap (λ (x : Row). x.near) is, ← ap (λ (x : Row). x.far) is, ← home)

      turn : Turn w room sums.here rows i row
      turn = turn-law w room _ _ _ sums.here runs.ready runs.sum-here runs.small-here over is-next

      pub found_within : i < length far
      found_within = omega (arith, turn.within, upto-length (length far) (row_in near far here there))

      pub found_asks : Asks w room sums.here row
      found_asks = turn.asks

      abbrev to : Row
      to = moved_of w room sums.here row

      -- A sum over the rows, where the row that was found has moved.
      moved_sum : (f : Row → ℕ) → sum_of f (set rows i (bare to)) + f row ≡ sum_of f rows + f (bare to)
      moved_sum f = rw turn.is at (sum-set f rows i (bare to) turn.within)

      pub goes_on : {near' here' there' : List ℕ} {after : Sums} (m : ℕ) → left ≡ suc m → Advanced w room sums (at far i) i near here there near' here' there' after
          → Runs w room near₀ far here₀ there₀ near' here' there' after m
      goes_on {near'} {here'} {there'} m e adv = record {
        size-near = ap length adv.set-near ∙ simp length-set runs.size-near;
        size-here = ap length adv.set_here ∙ simp length-set runs.size-here;
        size-there = ap length adv.set_there ∙ simp length-set runs.size-there;
        ready = rw after-rows (turn.ready (bare to) (moved-still w room sums.here row));
        sum-here = omega (arith, adv.sum-here, rw (← after-rows) at (moved_sum (λ (r : Row). r.here)), runs.sum-here);
        sum-there = omega (arith, adv.sum-there, rw (← after-rows) at (moved_sum (λ (r : Row). r.there)), runs.sum-there);
        small-here = omega (arith, adv.sum-here, runs.small-here, (moved-fits w room sums.here row turn.asks.row turn.asks.among over).0);
        small-there = omega (arith, adv.sum-there, adv.small, runs.small-there);
        alike = alike-steps m w room (rows_in (length far) near' far here' there') (set rows i to) same ∙ rw (turn.moves left m e) runs.alike;
      }
        where
          after-rows : rows_in (length far) near' far here' there' ≡ set rows i (bare to)
          after-rows =
              rw (adv.set-near, adv.set_here, adv.set_there, moved-bare w room sums.here (at near i) (at far i))
              (rows-set (length far) near far here there i to.here to.there found_within (omega (arith, runs.size-near)) (omega (arith, runs.size-here)) (omega (arith, runs.size-there)))

          same : Alike (rows_in (length far) near' far here' there') (set rows i to)
          same = rw (after-rows, bare_set rows i (bare to), bare_set rows i to, bare-bare to)
