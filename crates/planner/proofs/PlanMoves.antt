-- The moves of a planned set: the promise of `moves`, and what follows from it of every accepted set: how often each job moves, exactly, and how
-- often all of them together.
--   moves-refused, moves-promised   the promise of `moves`
--   outers, inners    the outer moves of all jobs together, and the inner ones
--   planned-given     a set that the call says is planned has a plan
--   planned-answered  of a set that has a plan the call gives moves, and no refusal
--   mover-exactly     a mover has two outer moves, and its slices less 2 inner ones
--   other-exactly     any other job has one slice and no move, or two slices and two inner moves
--   moves-as-slices   a job with two slices or more moves as often as it has slices
--   moves-slices      all moves are the slices less the jobs with exactly one
--   moves-few         at most 3·(m1 + m2) − 2 moves
--   plan-never-7      a plan is never refused for space where the tables are long enough for every set
-- Assumes nothing.
use mathlib.Core.Path.{◌≡◌, refl, sym, ap, ◌∙◌}
use mathlib.Core.Bool.{Bool, true, false}
use mathlib.Core.List.{List, [], ◌∷◌, ◌++◌, map}
use mathlib.Core.Logic.{◌⊎◌}
use Prim.Native.Nat.{ℕ, zero, suc, ◌+◌, ◌-◌, ◌*◌, ◌≤◌, ◌<◌}
use native.Mathlib.Nat.{mul-le-mul}
use native.Mathlib.Omega.{arith}
use borrow.Author.Tests.{ltb-true, ltb-false, le-ltb}
use lib.Dec.{ltb}
use lib.ListN.{length, get_or, take, replicate, get_or-append}
use Rattle.std.specs.Prelude.{Result, Ok, Err}
use Rattle.rows.specs.Lists.{All, sum_of}
use Rattle.rows.specs.Numbered.{sum_below}
use Rattle.rows.specs.Upto.{upto}
use Rattle.rows.proofs.Never.{never}
use Rattle.rows.proofs.Lists.{all-at, sum-append}
use Rattle.rows.proofs.Numbered.{below-upto}
use Rattle.rows.proofs.Upto.{upto-length, upto-at}
use Rattle.model.specs.Limits.{jobs_most, slices_most}
use Rattle.model.specs.Movers.{is_mover}
use Rattle.model.specs.Packed.{slice_in, slices_in}
use Rattle.model.specs.Refusal.{Answer, given, refused, and_then}
use Rattle.model.specs.Split.{Ticks, share, AllDone}
use Rattle.model.specs.declared.Board.{Board}
use Rattle.model.specs.declared.Job.{Job}
use Rattle.model.specs.declared.Job.TheVariants.{Both, OnlyFirst, OnlySecond}
use Rattle.model.specs.declared.Refusal.{Refusal}
use Rattle.model.proofs.Splits.{all-done-length}
use Rattle.legal.specs.Lawful.{LegalJob}
use Rattle.split.specs.Shares.{shares_of}
use Rattle.split.proofs.Causes.{shares-never-7}
use Rattle.slices.specs.Fits.{Fits}
use Rattle.slices.specs.JobSlices.{slices_for, singles}
use Rattle.slices.specs.Moves.{moves_of}
use Rattle.slices.specs.Table.{table_of}
use Rattle.slices.specs.declared.Moves.{Moves}
use Rattle.slices.proofs.JobMoves.{mover-moves, other-moves, many-moves, table-moves, table-moves-few}
use Rattle.columns.specs.Plan.{Plan, plan_from, fitted, counts_in}
use Rattle.columns.specs.declared.Counts.{Counts}
use Rattle.columns.proofs.ColumnFronts.{slices-take}
use Rattle.columns.proofs.PlanLaws.{shares-lawful, shares-accepted, accepted-few, shares-fit}
use Rattle.planner.specs.PlanMoves.{moves_in, no_moves, roomy_plan, MovesPromised}
use Rattle.planner.specs.InColumns.{whole_plan, Filled}
use Rattle.planner.specs.declared.PlannedMoves.{PlannedMoves}
use Rattle.planner.specs.declared.Tables.{Tables}
use Rattle.planner.proofs.PlanKept.{plan-shares}
use Rattle.planner.proofs.PlanTables.{plan-whole, jobs-are, slices-are}

-- ---- the code's columns
module _ (board : Board) (n : ℕ) (js : List Job) where
  roomy : {x : Answer Plan} → x ≡ whole_plan board n js → roomy_plan board n js ≡ and_then x (fitted jobs_most slices_most)
  roomy e = rw e (plan-whole board n js jobs_most slices_most)

  pub moves-refused : (e : Refusal) (t : Tables) → Filled board n js (Err e) t → MovesPromised board n js (Err e)
  moves-refused e t filled = record { says = sym (ap counts_in (roomy filled.says)); moves = tt }

  -- The moves are counted in all rows of the column of slices, of which the plan's are the first.
  pub moves-promised : (c : Counts) (t : Tables) (moves : List Moves) → Filled board n js (Ok c) t → c.slices ≤ length t.slices
      → moves ≡ upto c.jobs (moves_of (take c.slices (map slice_in t.slices))) ++ replicate (jobs_most - c.jobs) no_moves
      → MovesPromised board n js (Ok (record { counts = c; moves = moves }))
  moves-promised c t moves filled there e =
      let fits = rw (jobs-are c t, slices-are c t, le-ltb jobs_most c.jobs filled.few.shares, le-ltb slices_most c.slices filled.few.slices) at (roomy filled.says) in
      record {
        says = rw (fits, jobs-are c t, slices-are c t) refl;
        moves = rw (fits, jobs-are c t, upto-length c.jobs (moves_of (slices_in c.slices t.slices)), slices-take c.slices t.slices there) e;
      }

-- So what is said below of an answer that gives moves is said of every set that has a plan.
pub planned-answered : (board : Board) (n : ℕ) (js : List Job) (r : Result PlannedMoves Refusal) (p : Plan) → MovesPromised board n js r
    → roomy_plan board n js ≡ given p → (q : PlannedMoves) × (r ≡ Ok q)
planned-answered board n js (Ok q) p m is = (q, refl)
planned-answered board n js (Err refusal) p m is = let no = rw is at m.says in never (cc)

-- ---- how often the jobs of an accepted set move, by what `moves` promises
abbrev pub outers : List Moves → ℕ
outers ms = sum_of (λ (m : Moves). m.outer) ms

abbrev pub inners : List Moves → ℕ
inners ms = sum_of (λ (m : Moves). m.inner) ms

-- Rows that are not used add nothing.
unused-sum : (f : Moves → ℕ) → f no_moves ≡ 0 → (k : ℕ) → sum_of f (replicate k no_moves) ≡ 0
unused-sum f none zero = refl
unused-sum f none (suc k) = omega (arith, unused-sum f none k)

-- A job whose work is done has a share, since its cost is at least 1.
both_some : (a b c d : ℕ) → 0 < c → 0 < d → 1 * c * d ≤ a * d + b * c → 0 < a + b
both_some a b c d hc hd work = go (ltb 0 (a + b)) refl
  where
    go : (t : Bool) → ltb 0 (a + b) ≡ t → 0 < a + b
    go true t = ltb-true 0 (a + b) t
    go false t =
        let none : a + b ≤ 0 = ltb-false 0 (a + b) t in
        let za : a ≡ 0 = omega arith in
        let zb : b ≡ 0 = omega arith in
        absurd (omega (arith, ap (λ (x : ℕ). x * d) za, ap (λ (x : ℕ). x * c) zb, mul-le-mul {n₁ = 1} {m₁ = 1} {n₂ = c} {m₂ = d} hc hd))

done-some : (w : ℕ) (js : List Job) (ss : List Ticks) → All (LegalJob w) js → AllDone w 1 js ss → All (λ (s : Ticks). 0 < s.first + s.second) ss
done-some w [] [] l d = tt
done-some w [] (s ∷ ss) l d = absurd d
done-some w (j ∷ js) [] l d = absurd d
done-some w (Both c1 c2 ∷ js) (s ∷ ss) l d =
    (both_some s.first s.second c1.0 c2.0 l.0.0 l.0.1 d.0.0, done-some w js ss l.1 d.1)
done-some w (OnlyFirst c1 ∷ js) (s ∷ ss) l d = (omega arith, done-some w js ss l.1 d.1)
done-some w (OnlySecond c2 ∷ js) (s ∷ ss) l d = (omega arith, done-some w js ss l.1 d.1)

-- A set that the call says is planned has a plan.
pub planned-given : {board : Board} {n : ℕ} {js : List Job} {r : PlannedMoves} → MovesPromised board n js (Ok r)
    → (p : Plan) × (roomy_plan board n js ≡ given p)
planned-given {board} {n} {js} {r} promised = go (roomy_plan board n js) promised.says
  where
    go : (x : Answer Plan) → given r.counts ≡ counts_in x → (p : Plan) × (x ≡ given p)
    go (given p) e = (p, refl)
    go (refused number place) e = never (cc)

module _ {board : Board} {n : ℕ} {js : List Job} {r : PlannedMoves} {p : Plan}
    (promised : MovesPromised board n js (Ok r)) (is : roomy_plan board n js ≡ given p) where
  -- The moves of job j, as they are answered, and its slices.
  abbrev moves_at : ℕ → Moves
  moves_at j = get_or r.moves j no_moves

  abbrev slices_at : ℕ → ℕ
  slices_at j = slices_for j p.slices

  made : (shares_of board n js ≡ given p.shares) × (p.slices ≡ table_of board.window p.shares)
  made = plan-shares board n js jobs_most slices_most is

  fits : Fits board p.shares
  fits = shares-fit board n js made.0

  -- How many rows are not used.
  abbrev unused : ℕ
  unused = jobs_most - length (moves_in (roomy_plan board n js))

  moves-are : r.moves ≡ upto (length p.shares) (moves_of p.slices) ++ replicate unused no_moves
  moves-are = promised.moves ∙ ap (λ (x : Answer Plan). moves_in x ++ replicate unused no_moves) is

  moves-at : (j : ℕ) → j < length p.shares → moves_at j ≡ moves_of p.slices j
  moves-at j h =
      ap (λ (ms : List Moves). get_or ms j no_moves) moves-are
      ∙ get_or-append (upto (length p.shares) (moves_of p.slices)) _ no_moves j (omega (arith, upto-length (length p.shares) (moves_of p.slices)))
      ∙ upto-at (length p.shares) (moves_of p.slices) no_moves j h

  moves-sum : (f : Moves → ℕ) → f no_moves ≡ 0 → sum_of f r.moves ≡ sum_below (length p.shares) (λ (j : ℕ). f (moves_of p.slices j))
  moves-sum f none =
      ap (λ (ms : List Moves). sum_of f ms) moves-are
      ∙ omega (
        arith,
        sum-append f (upto (length p.shares) (moves_of p.slices)) (replicate unused no_moves),
        below-upto f (length p.shares) (moves_of p.slices),
        unused-sum f none unused,
      )

  -- A mover has two outer moves, and its slices less 2 inner ones.
  pub mover-exactly : (j : ℕ) → j < length p.shares → is_mover (get_or p.shares j (share 0 0)) ≡ true
      → ((moves_at j).outer ≡ 2) × ((moves_at j).inner + 2 ≡ slices_at j) × (slices_at j ≤ 3)
  mover-exactly j h m = rw (moves-at j h, made.1) (mover-moves board p.shares fits j h m)

  -- Any other job has one slice and no move, or two slices and two inner moves.
  pub other-exactly : (j : ℕ) → j < length p.shares → is_mover (get_or p.shares j (share 0 0)) ≡ false
      → ((moves_at j).outer ≡ 0) × (((slices_at j ≡ 1) × ((moves_at j).inner ≡ 0)) ⊎ ((slices_at j ≡ 2) × ((moves_at j).inner ≡ 2)))
  other-exactly j h m =
      let done = (shares-accepted board n js made.0).whole.done in
      let some = done-some board.window js p.shares (shares-lawful board n js made.0).jobs done in
      rw (moves-at j h, made.1)
      (other-moves board p.shares fits j h m (all-at (λ (s : Ticks). 0 < s.first + s.second) (share 0 0) p.shares j h some))

  -- So a job with two slices or more moves as often as it has slices,
  pub moves-as-slices : (j : ℕ) → j < length p.shares → 2 ≤ slices_at j → (moves_at j).outer + (moves_at j).inner ≡ slices_at j
  moves-as-slices j h two = rw (moves-at j h, made.1) (many-moves board p.shares fits j h (rw made.1 at two))

  -- and all moves together are the slices less the jobs with exactly one.
  pub moves-slices : outers r.moves + inners r.moves + singles (length p.shares) p.slices ≡ length p.slices
  moves-slices =
      rw (moves-sum (λ (m : Moves). m.outer) refl, moves-sum (λ (m : Moves). m.inner) refl, made.1) (table-moves board p.shares fits)

  pub moves-few : outers r.moves + inners r.moves + 2 ≤ 3 * (board.first + board.second)
  moves-few =
      let law = shares-lawful board n js made.0 in
      rw (moves-sum (λ (m : Moves). m.outer) refl, moves-sum (λ (m : Moves). m.inner) refl, made.1)
      (table-moves-few board p.shares fits law.first_some law.second-some)

-- A plan for tables that are long enough for every set is never refused by 7.
pub plan-never-7 : (board : Board) (n : ℕ) (js : List Job) → length js ≤ jobs_most → (number place : ℕ)
    → roomy_plan board n js ≡ refused number place → number ≡ 7 → ⊥
plan-never-7 board n js short number place e = go (shares_of board n js) refl e
  where
    go : (x : Answer (List Ticks)) → shares_of board n js ≡ x
        → and_then x (λ (ss : List Ticks). fitted jobs_most slices_most (plan_from board ss))
        ≡ refused number place → number ≡ 7 → ⊥
    go (given ss) is e seven =
        let law = shares-lawful board n js is in
        let ok = shares-accepted board n js is in
        let few : length ss ≤ jobs_most = omega (arith, all-done-length board.window 1 js ss ok.whole.done) in
        let rows : length (table_of board.window ss) ≤ slices_most =
        omega (arith, accepted-few board n js ss law ok, law.first-most, law.second-most) in
        let fits = rw (le-ltb jobs_most (length ss) few, le-ltb slices_most (length (table_of board.window ss)) rows) at e in
        never (cc)
    go (refused m q) is e seven = let same : m ≡ number = cc in shares-never-7 board n js is (same ∙ seven)
