-- How often each job of the table moves, exactly. On the circle of the window a job's ticks on a kind are one arc: a run that is cut at the edge of a
-- core goes on at the other end of the window. A mover's two runs begin at one tick of the circle and go apart, so the window's end cuts
-- one of them at most. Assumes nothing.
use mathlib.Core.Path.{◌≡◌, refl, sym, subst, ◌∙◌}
use mathlib.Core.Bool.{Bool, true, false, true≢false, cond}
use mathlib.Core.List.{List, ◌++◌}
use mathlib.Core.Logic.{◌⊎◌, inl, inr}
use Prim.Native.Nat.{ℕ, ◌+◌, ◌*◌, ◌/◌, ◌%◌, ◌≤◌, ◌<◌}
use native.Mathlib.Nat.{div-add-mod', mod-lt, lt_of_mul-lt-mul_right, mul-le-mul_right}
use native.Mathlib.Omega.{arith}
use borrow.Author.Tests.{ne_eqb}
use lib.Dec.{leb, ltb, eqb}
use lib.ListN.{length}
use Rattle.std.proofs.lemmas.Bool.Decides.{nat_tests}
use Rattle.rows.specs.Numbered.{sum_below}
use Rattle.rows.proofs.Lists.{all_map}
use Rattle.rows.proofs.Numbered.{below-add, below-same}
use Rattle.model.specs.Movers.{is_mover}
use Rattle.model.specs.Split.{Ticks, ticks_on}
use Rattle.model.specs.Timetable.{Inside}
use Rattle.model.specs.declared.Board.{Board}
use Rattle.model.specs.declared.Kind.{Kind}
use Rattle.model.specs.declared.Kind.TheVariants.{First, Second}
use Rattle.model.specs.declared.Slice.{Slice}
use Rattle.model.proofs.Movers.{mover-some}
use Rattle.slices.specs.Fits.{Fits}
use Rattle.slices.specs.JobSlices.{slices_for, singles}
use Rattle.slices.specs.Moves.{moves, moves_of}
use Rattle.slices.specs.Table.{cut_of, table_of}
use Rattle.slices.specs.declared.Moves.{Moves}
use Rattle.slices.proofs.Circle.{one-moves, kinds-moves, cores-moves, first-cut-moves, second-cut-moves}
use Rattle.slices.proofs.CutsMost.{cuts-most}
use Rattle.slices.proofs.JobRows.{run_of, rows-length, rows-moves, rows-table}
use Rattle.slices.proofs.Pieces.{share_at}
use Rattle.slices.proofs.Places.{offset, cuts_of, offset-whole}
use Rattle.slices.proofs.Timetabled.{both-short, table-timetable}
use Rattle.slices.proofs.Totals.{count-jobs}

-- Two positions that add up to whole windows stand at one tick of the circle, counted from its two ends.
whole-rest : (w n a b : ℕ) → 1 ≤ w → a + b ≡ n * w → (a % w + b % w ≡ 0) ⊎ (a % w + b % w ≡ w)
whole-rest w n a b wide e =
    let da = div-add-mod' a w in
    let db = div-add-mod' b w in
    let ra = mod-lt a {m = w} wide in
    let rb = mod-lt b {m = w} wide in
    let few : n < a / w + b / w + 2 = lt_of_mul-lt-mul_right w (omega arith) in
    let all : n ≤ a / w + b / w → n * w ≤ (a / w + b / w) * w = λ h. mul-le-mul_right w h in
    let one : a / w + b / w + 1 ≤ n → (a / w + b / w + 1) * w ≤ n * w = λ h. mul-le-mul_right w h in
    grind (arith, all, one)

-- How a job with a share stands in a table: the cuts of its runs, its moves, and its slices.
data Exactly (s : Ticks) : ℕ → Moves → ℕ → Type 0 where
  no-share : s.first + s.second ≡ 0 → Exactly s 0 (moves 0 0) 0
  alone : is_mover s ≡ false → Exactly s 0 (moves 0 0) 1
  alone-cut : is_mover s ≡ false → Exactly s 1 (moves 0 2) 2
  mover : is_mover s ≡ true → Exactly s 0 (moves 2 0) 2
  mover-cut : is_mover s ≡ true → Exactly s 1 (moves 2 1) 3

module _ {s : Ticks} where
  by-moves : {cuts slices : ℕ} {m n : Moves} → m ≡ n → Exactly s cuts n slices → Exactly s cuts m slices
  by-moves {cuts} {slices} e x = subst (λ (m : Moves). Exactly s cuts m slices) (sym e) x

  exactly-mover : {cuts slices : ℕ} {m : Moves} → Exactly s cuts m slices → is_mover s ≡ true → (m.outer ≡ 2) × (m.inner + 2 ≡ slices) × (slices ≤ 3)
  exactly-mover (no-share e) is = absurd (omega (arith, mover-some s is))
  exactly-mover (alone e) is = absurd (true≢false (sym is ∙ e))
  exactly-mover (alone-cut e) is = absurd (true≢false (sym is ∙ e))
  exactly-mover (mover e) is = (refl, refl, omega arith)
  exactly-mover (mover-cut e) is = (refl, refl, omega arith)

  exactly-other : {cuts slices : ℕ} {m : Moves} → Exactly s cuts m slices → is_mover s ≡ false → 0 < s.first + s.second
      → (m.outer ≡ 0) × (((slices ≡ 1) × (m.inner ≡ 0)) ⊎ ((slices ≡ 2) × (m.inner ≡ 2)))
  exactly-other (no-share e) not some = absurd (omega arith)
  exactly-other (alone e) not some = (refl, inl (refl, refl))
  exactly-other (alone-cut e) not some = (refl, inr (refl, refl))
  exactly-other (mover e) not some = absurd (true≢false (sym e ∙ not))
  exactly-other (mover-cut e) not some = absurd (true≢false (sym e ∙ not))

  exactly-all : {cuts slices : ℕ} {m : Moves} → Exactly s cuts m slices → m.outer + m.inner + cond (eqb slices 1) 1 0 ≡ slices
  exactly-all (no-share e) = refl
  exactly-all (alone e) = refl
  exactly-all (alone-cut e) = refl
  exactly-all (mover e) = refl
  exactly-all (mover-cut e) = refl

  exactly-cuts : {cuts slices : ℕ} {m : Moves} → Exactly s cuts m slices → m.outer + m.inner ≡ cond (is_mover s) (2 + cuts) (2 * cuts)
  exactly-cuts (no-share e) = grind (arith, nat_tests)
  exactly-cuts (alone e) = rw e
  exactly-cuts (alone-cut e) = rw e
  exactly-cuts (mover e) = rw e
  exactly-cuts (mover-cut e) = rw e

module _ (board : Board) (ss : List Ticks) (fits : Fits board ss) (j : ℕ) (there : j < length ss) where
  abbrev w : ℕ
  w = board.window

  abbrev ticks : Kind → ℕ
  ticks k = ticks_on k (share_at ss j)

  short : ticks First + ticks Second ≤ w
  short = both-short board ss fits j there

  -- The place at which the job's run begins on its core, in the kind's direction.
  abbrev begins : Kind → ℕ
  begins k = offset k w ss j % w

  inside : (k : Kind) → begins k < w
  inside k = mod-lt (offset k w ss j) {m = w} fits.some

  -- The two runs of a mover begin at one tick of the circle.
  abbrev Meet : Type 0
  Meet = (begins First + begins Second ≡ 0) ⊎ (begins First + begins Second ≡ w)

  meet : is_mover (share_at ss j) ≡ true → Meet
  meet is =
      let whole = offset-whole w ss j fits.one-uneven there is in
      whole-rest w whole.0 (offset First w ss j) (offset Second w ss j) fits.some whole.1

  -- The job's run on a kind: none, one in one slice, or one that is cut.
  data Run (k : Kind) : Type 0 where
    none : ltb 0 (ticks k) ≡ false → leb (begins k + ticks k) w ≡ true → Run k
    whole : ltb 0 (ticks k) ≡ true → leb (begins k + ticks k) w ≡ true → Run k
    cut : ltb 0 (ticks k) ≡ true → leb (begins k + ticks k) w ≡ false → Run k

  run : (k : Kind) → Run k
  run k = go (ltb 0 (ticks k)) refl (leb (begins k + ticks k) w) refl
    where
      go : (a : Bool) → ltb 0 (ticks k) ≡ a → (b : Bool) → leb (begins k + ticks k) w ≡ b → Run k
      go false a true b = none a b
      go false a false b = absurd (grind (arith, nat_tests, inside k))
      go true a true b = whole a b
      go true a false b = cut a b

  -- The job's own rows, and what they tell.
  abbrev own : List Slice
  own = run_of j First w ss ++ run_of j Second w ss

  abbrev Told : Type 0
  Told = Exactly (share_at ss j) (cuts_of w ss j) (moves_of own j) (length own)

  told : Run First → Run Second → Told
  unfolding cut_of
  told (none a b) (none c d) = rw (a, b, c, d) (no-share (grind (arith, nat_tests)))
  told (whole a b) (none c d) = rw (a, b, c, d) (by-moves (one-moves j First _ _ _) (alone (rw (a, c) refl)))
  told (none a b) (whole c d) = rw (a, b, c, d) (by-moves (one-moves j Second _ _ _) (alone (rw a refl)))
  told (cut a b) (none c d) =
      rw (a, b, c, d) (by-moves (cores-moves j First _ _ _ _ _ (λ same. grind (arith, nat_tests, short))) (alone-cut (rw (a, c) refl)))
  told (none a b) (cut c d) =
      rw (a, b, c, d) (by-moves (cores-moves j Second _ _ _ _ _ (λ same. grind (arith, nat_tests, short, inside Second))) (alone-cut (rw a refl)))
  told (whole a b) (whole c d) =
      let m = meet (rw (a, c) refl) in
      rw (c, d, a, b) (by-moves (kinds-moves j _ _ _ _ _ _ (λ same. grind (arith, nat_tests, short))) (mover (rw (a, c) refl)))
  told (cut a b) (whole c d) =
      let m = meet (rw (a, c) refl) in
      rw (c, d, a, b)
      (by-moves (first-cut-moves j _ _ _ _ _ _ _ _ (grind (arith, nat_tests, short)) (grind (arith, nat_tests, short)))
      (mover-cut (rw (a, c) refl)))
  told (whole a b) (cut c d) =
      let m = meet (rw (a, c) refl) in
      rw (c, d, a, b)
      (by-moves (second-cut-moves j _ _ _ _ _ _ _ _ (grind (arith, nat_tests, inside, short)) (grind (arith, nat_tests, inside, short)))
      (mover-cut (rw (a, c) refl)))
  told (cut a b) (cut c d) = let m = meet (rw (a, c) refl) in absurd (grind (arith, nat_tests, short))

  abbrev rows : List Slice
  rows = table_of board.window ss

  exactly : Exactly (share_at ss j) (cuts_of w ss j) (moves_of rows j) (slices_for j rows)
  exactly = rw (rows-moves j rows, rows-length j rows, rows-table j w ss there) (told (run First) (run Second))

  -- A mover has two or three slices, two outer moves, and an inner one for a third slice.
  pub mover-moves : is_mover (share_at ss j) ≡ true
      → ((moves_of rows j).outer ≡ 2) × ((moves_of rows j).inner + 2 ≡ slices_for j rows) × (slices_for j rows ≤ 3)
  mover-moves = exactly-mover exactly

  -- Any other job has no outer move; with one slice it has no inner one, and with two it has two.
  pub other-moves : is_mover (share_at ss j) ≡ false → 0 < (share_at ss j).first + (share_at ss j).second
      → ((moves_of rows j).outer ≡ 0)
      × (((slices_for j rows ≡ 1) × ((moves_of rows j).inner ≡ 0)) ⊎ ((slices_for j rows ≡ 2) × ((moves_of rows j).inner ≡ 2)))
  other-moves = exactly-other exactly

  -- So a job with two slices or more moves as often as it has slices, and any other never.
  all-moves : (moves_of rows j).outer + (moves_of rows j).inner + cond (eqb (slices_for j rows) 1) 1 0 ≡ slices_for j rows
  all-moves = exactly-all exactly

  pub many-moves : 2 ≤ slices_for j rows → (moves_of rows j).outer + (moves_of rows j).inner ≡ slices_for j rows
  many-moves two =
      let not-one : eqb (slices_for j rows) 1 ≡ false = ne_eqb (slices_for j rows) 1 (λ same. omega arith) in
      omega (arith, rw not-one at all-moves)

  cuts-moves : (moves_of rows j).outer + (moves_of rows j).inner ≡ cond (is_mover (share_at ss j)) (2 + cuts_of w ss j) (2 * cuts_of w ss j)
  cuts-moves = exactly-cuts exactly

-- ---- all jobs together
module _ (board : Board) (ss : List Ticks) (fits : Fits board ss) where
  abbrev table : List Slice
  table = table_of board.window ss

  abbrev outer : ℕ → ℕ
  outer j = (moves_of table j).outer

  abbrev inner : ℕ → ℕ
  inner j = (moves_of table j).inner

  -- All moves are the slices less the jobs with exactly one.
  pub table-moves : sum_below (length ss) outer + sum_below (length ss) inner + singles (length ss) table ≡ length table
  table-moves =
      let single : ℕ → ℕ = λ j. cond (eqb (slices_for j table) 1) 1 0 in
      omega (
        arith,
        count-jobs (length ss) table
            (all_map (Inside board (length ss)) (λ (s : Slice). s.job < length ss) (λ s i. i.job) table (table-timetable board ss fits).inside),
        below-same (λ (j : ℕ). outer j + inner j + single j) (λ (j : ℕ). slices_for j table) (length ss) (all-moves board ss fits),
        below-add (λ (j : ℕ). outer j + inner j) single (length ss),
        below-add outer inner (length ss),
      )

  pub table-moves-few : 1 ≤ board.first → 1 ≤ board.second
      → sum_below (length ss) outer + sum_below (length ss) inner + 2 ≤ 3 * (board.first + board.second)
  table-moves-few some1 some2 =
      omega (
        arith,
        below-same (λ (j : ℕ). outer j + inner j)
            (λ (j : ℕ). cond (is_mover (share_at ss j)) (2 + cuts_of board.window ss j) (2 * cuts_of board.window ss j))
            (length ss) (cuts-moves board ss fits),
        below-add outer inner (length ss),
        cuts-most board ss fits some1 some2,
      )
