-- Wrong planners that the promise of the planning call shuts out: docs/PROMISES.md, "planner". A planner is any function of the board, the jobs
-- and the two lent tables. Each theorem takes one that goes wrong in some way and meets the promise, and ends in ⊥; all but the last by a
-- small set, on a board with one core of each kind and a window of 10. They cite the theorems of Demands.antt and no part of the promise
-- itself. (That page reads the causes of demand 1 and the rows of demand 2 from the answer and the rows that the promise tells.)
--   refuses-everything      demands 1 and 3: no line of the table of refusals applies to the empty set, and it has a split
--   one-plan                demand 2: a job on the first kind alone has ticks there, and one on the second alone has none
--   no-shares-written       demand 2: a share does the job's work
--   no-slices-written       demand 2: a job with work has a slice, and its length is not 0
--   copied-shares           demand 2: each job gets its own work
--   copied-slices           demand 2: each job gets the ticks of its share, and so each kind here has a slice of its own
--   invented-count          demand 2: the rows are those of the rules, and as many as are counted
-- That a set of one or two jobs is planned at all, and not refused, is demands 1 and 3 again (`split-planned`). Assumes nothing.
use mathlib.Core.Bool.{Bool, true, false, cond, ◌&&◌}
use mathlib.Core.List.{List, [], ◌∷◌}
use mathlib.Core.Logic.{⊎_elim}
use mathlib.Core.Path.{◌≡◌, refl, sym, ap, ◌∙◌}
use Prim.Native.Nat.{ℕ, suc, ◌+◌, ◌≤◌, ◌<◌}
use native.Mathlib.Omega.{arith}
use borrow.Author.Tests.{ltb-true, ltb-false}
use lib.Dec.{ltb}
use lib.ListN.{length, take, get_or, replicate}
use lib.Seq.{get_or-take, length-take-le}
use Rattle.std.specs.Prelude.{Result, Ok, Err}
use Rattle.rows.specs.Lists.{All}
use Rattle.rows.proofs.Never.{never}
use Rattle.model.specs.Board.{same_kind, room_of}
use Rattle.model.specs.Empty.{no_share, no_slice}
use Rattle.model.specs.Split.{Ticks, share, ticks_of, AllDone}
use Rattle.model.specs.Timetable.{is_of, ticks_in}
use Rattle.model.specs.declared.Kind.{Kind}
use Rattle.model.specs.declared.Kind.TheVariants.{First, Second}
use Rattle.model.specs.declared.Board.{Board}
use Rattle.model.specs.declared.Job.{Job}
use Rattle.model.specs.declared.Job.TheVariants.{OnlyFirst, OnlySecond}
use Rattle.model.specs.declared.Refusal.{Refusal}
use Rattle.model.specs.declared.Share.{Share}
use Rattle.model.specs.declared.Slice.{Slice}
use Rattle.legal.specs.Lawful.{LegalJob, Lawful}
use Rattle.split.specs.Home.{stretched_at}
use Rattle.split.specs.Promise.{stretched_on, SmallerSplit}
use Rattle.columns.specs.Plan.{plan_of, slices_given}
use Rattle.columns.specs.declared.Counts.{Counts}
use Rattle.planner.specs.Promise.{Promised}
use Rattle.planner.proofs.Demands.{rows-there, rows-by-rules, job-whole, job-served, slice_inside, split-planned}

pub record Outcome : Type 0 where
  pub answer : Result Counts Refusal
  pub shares : List Share
  pub slices : List Slice

abbrev pub Planner : Type 0
Planner = Board → List Job → List Share → List Slice → Outcome

abbrev pub Meets : Planner → Type 0
Meets f =
    (board : Board) (js : List Job) (ss : List Share) (ls : List Slice)
    → Promised board js ss ls (f board js ss ls).answer (f board js ss ls).shares (f board js ss ls).slices

-- ---- the board, the sets and the tables
abbrev tiny : Board
tiny = record { window = 10; first = 1; second = 1 }

abbrev first : Job
first = OnlyFirst (record { 0 = 1 })

abbrev second : Job
second = OnlySecond (record { 0 = 1 })

-- Two rows for shares, and four for slices: two jobs on two cores have no more.
abbrev shares : List Share
shares = replicate 2 no_share

abbrev slices : List Slice
slices = replicate 4 no_slice

abbrev out : Planner → List Job → Outcome
out f js = f tiny js shares slices

-- A set that demands 1 and 3 let no planner refuse.
record Small (js : List Job) : Type 0 where
  law : Lawful tiny (length js) js
  split : SmallerSplit tiny js
  few : length js ≤ 2

-- A set of jobs whose shares are told.
small : (js : List Job) (ss : List Ticks) → All (LegalJob 10) js → AllDone 10 1 js ss → ticks_of First ss + stretched_on tiny js First ≤ 10
    → ticks_of Second ss + stretched_on tiny js Second ≤ 10 → length js ≤ 2 → Small js
unfolding room_of
small js ss legal does within₁ within₂ few =
    record {
      law =
          record {
            window-some = omega arith;
            window-most = omega arith;
            first_some = omega arith;
            first-most = omega arith;
            second-some = omega arith;
            second-most = omega arith;
            few = omega arith;
            jobs = legal;
          };
      split = record { whole = 1; some = omega arith; shares = ss; done = does; within1 = omega arith; within2 = omega arith };
      few = few;
    }

none : Small []
none = small [] [] tt tt (omega arith) (omega arith) (omega arith)

one-first : Small (first ∷ [])
unfolding stretched_at
one-first = small (first ∷ []) (share 1 0 ∷ []) (omega arith) (omega arith) (omega arith) (omega arith) (omega arith)

one-second : Small (second ∷ [])
unfolding stretched_at
one-second = small (second ∷ []) (share 0 1 ∷ []) (omega arith) (omega arith) (omega arith) (omega arith) (omega arith)

two : Small (first ∷ second ∷ [])
unfolding stretched_at
two = small (first ∷ second ∷ []) (share 1 0 ∷ share 0 1 ∷ []) (omega arith) (omega arith) (omega arith) (omega arith) (omega arith)

module _ (f : Planner) (meets : Meets f) {js : List Job} (s : Small js) where
  planned-is : (c : Counts) × ((out f js).answer ≡ Ok c)
  planned-is =
      split-planned (out f js).answer (meets tiny js shares slices) s.law s.split
      (⊎_elim (λ l. omega (arith, s.few)) (λ l. omega (arith, s.few)))

  planned : Promised tiny js shares slices (Ok planned-is.0) (out f js).shares (out f js).slices
  planned = rw planned-is.1 at (meets tiny js shares slices)

-- A job with ticks on a kind has a row there.
of-kind : (k l : Kind) (t : Bool) (n : ℕ) → 0 < cond (same_kind k l && t) n 0 → l ≡ k
of-kind First First t n h = refl
of-kind First Second t n h = absurd (omega arith)
of-kind Second First t n h = absurd (omega arith)
of-kind Second Second t n h = refl

has-row : (k : Kind) (j : ℕ) (rows : List Slice) → 0 < ticks_in k j rows → (i : ℕ) × (i < length rows) × ((get_or rows i no_slice).kind ≡ k)
has-row k j [] h = absurd (omega arith)
has-row k j (s ∷ rows) h = go (ltb 0 here) refl (has-row k j rows)
  where
    here : ℕ
    here = cond (is_of k j s) s.length 0

    Found : List Slice → Type 0
    Found rows = (i : ℕ) × (i < length rows) × ((get_or rows i no_slice).kind ≡ k)

    go : (t : Bool) → ltb 0 here ≡ t → (0 < ticks_in k j rows → Found rows) → Found (s ∷ rows)
    go true e later = (0, omega arith, of-kind k s.kind _ _ (ltb-true 0 here e))
    go false e later = let x = later (omega (arith, ltb-false 0 here e)) in (suc x.0, omega arith, x.2)

-- ---- One that refuses everything, on the empty set.
pub refuses-everything : (f : Planner)
    → ((board : Board) (js : List Job) (ss : List Share) (ls : List Slice) → (r : Refusal) × ((f board js ss ls).answer ≡ Err r))
    → Meets f → ⊥
refuses-everything f refuses meets =
    let x = refuses tiny [] shares slices in
    let y = planned-is f meets none in
    let e : ◌≡◌ {A = Result Counts Refusal} (Err x.0) (Ok y.0) = sym x.1 ∙ y.1 in
    never (cc)

-- ---- The same plan whatever the set.
pub one-plan : (f : Planner)
    → ((board : Board) (js ks : List Job) (ss : List Share) (ls : List Slice) → f board js ss ls ≡ f board ks ss ls) → Meets f → ⊥
one-plan f same meets =
    let a = job-whole (planned f meets one-first) 0 (omega arith) in
    let b = job-whole (planned f meets one-second) 0 (omega arith) in
    let e = ap (λ (x : Outcome). (get_or x.shares 0 no_share).first.0) (same tiny (first ∷ []) (second ∷ []) shares slices) in
    omega arith

-- ---- One that writes no rows, whichever of the two tables it leaves as it was.
pub no-shares-written : (f : Planner)
    → ((board : Board) (js : List Job) (ss : List Share) (ls : List Slice) → (f board js ss ls).shares ≡ ss) → Meets f → ⊥
no-shares-written f kept meets =
    let a = job-whole (planned f meets one-first) 0 (omega arith) in
    let e = ap (λ (ss : List Share). (get_or ss 0 no_share).first.0) (kept tiny (first ∷ []) shares slices) in
    omega arith

module _ (f : Planner) (meets : Meets f) {js : List Job} (s : Small js) where
  -- A job with ticks on a kind has one of the rows that are counted.
  row_of : (k : Kind) (j : ℕ) → 0 < ticks_in k j (take (planned-is f meets s).0.slices (out f js).slices)
      → (i : ℕ) × (i < (planned-is f meets s).0.slices) × ((get_or (out f js).slices i no_slice).kind ≡ k)
  row_of k j some =
      let rows : ℕ = (planned-is f meets s).0.slices in
      let x = has-row k j (take rows (out f js).slices) some in
      let l : x.0 < rows = omega (arith, x.1, length-take-le rows (out f js).slices (rows-there (planned f meets s)).2) in
      (x.0, l, rw (get_or-take rows (out f js).slices x.0 no_slice l) at x.2)

pub no-slices-written : (f : Planner)
    → ((board : Board) (js : List Job) (ss : List Share) (ls : List Slice) → (f board js ss ls).slices ≡ ls) → Meets f → ⊥
no-slices-written f kept meets =
    let p = planned f meets one-first in
    let work = job-whole p 0 (omega arith) in
    let x = row_of f meets one-first First 0 (omega (arith, work, job-served p First 0 (omega arith))) in
    let a = (slice_inside p 0 (omega (arith, x.1))).some in
    let e = ap (λ (ls : List Slice). (get_or ls 0 no_slice).length) (kept tiny (first ∷ []) shares slices) in
    omega arith

-- ---- Every row a copy of the first.
pub copied-shares : (f : Planner)
    → ((board : Board) (js : List Job) (ss : List Share) (ls : List Slice) (c : Counts) (i : ℕ) → (f board js ss ls).answer ≡ Ok c → i < c.jobs
    → get_or (f board js ss ls).shares i no_share ≡ get_or (f board js ss ls).shares 0 no_share)
    → Meets f → ⊥
copied-shares f copies meets =
    let p = planned f meets two in
    let a = job-whole p 0 (omega arith) in
    let b = job-whole p 1 (omega arith) in
    let e = ap (λ (s : Share). s.first.0)
    (copies tiny (first ∷ second ∷ []) shares slices _ 1 (planned-is f meets two).1 (omega (arith, (rows-there p).0))) in
    omega arith

pub copied-slices : (f : Planner)
    → ((board : Board) (js : List Job) (ss : List Share) (ls : List Slice) (c : Counts) (i : ℕ) → (f board js ss ls).answer ≡ Ok c → i < c.slices
    → get_or (f board js ss ls).slices i no_slice ≡ get_or (f board js ss ls).slices 0 no_slice)
    → Meets f → ⊥
copied-slices f copies meets =
    let p = planned f meets two in
    let a = row_of f meets two First 0 (omega (arith, job-whole p 0 (omega arith), job-served p First 0 (omega arith))) in
    let b = row_of f meets two Second 1 (omega (arith, job-whole p 1 (omega arith), job-served p Second 1 (omega arith))) in
    let e = copies tiny (first ∷ second ∷ []) shares slices _ a.0 (planned-is f meets two).1 a.1 in
    let g = copies tiny (first ∷ second ∷ []) shares slices _ b.0 (planned-is f meets two).1 b.1 in
    let same : First ≡ Second = cc in
    never (cc)

-- ---- A count of slices that is not the length of the rules' table.
pub invented-count : (f : Planner) (board : Board) (js : List Job) (ss : List Share) (ls : List Slice) (c : Counts)
    → (f board js ss ls).answer ≡ Ok c → (c.slices ≡ length (slices_given (plan_of board (length js) js (length ss) (length ls))) → ⊥) → Meets f → ⊥
invented-count f board js ss ls c is wrong meets =
    let p : Promised board js ss ls (Ok c) (f board js ss ls).shares (f board js ss ls).slices = rw is at (meets board js ss ls) in
    wrong (sym (ap (λ x. length (slices_given x)) (rows-by-rules p) ∙ length-take-le c.slices (f board js ss ls).slices (rows-there p).2))
