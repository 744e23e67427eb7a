-- The promise of the planning call over lent tables, from what it knows of its callees. The answers for `plan` cite the last three alone.
--     counts-room, plan-room, room-alike   a plan is refused for room exactly where its shares are, and alike whatever is made of them
--     fit-rows       counts that fit tables have rows for themselves there
--     lent-refused   the promise of a set that gets no shares
--     lent-short     of tables that have too few rows for a plan
--     lent-planned   of a plan, whose rows were written to both tables
-- Assumes nothing.
use mathlib.Core.Path.{◌≡◌, refl, sym, ap, ◌∙◌}
use mathlib.Core.Bool.{Bool, true, false, false≢true, cond, ◌||◌}
use mathlib.Core.List.{List, ◌++◌, map}
use Prim.Native.Nat.{ℕ, ◌≤◌}
use borrow.Author.Tests.{ltb-false}
use lib.Dec.{ltb}
use lib.ListN.{length, take, drop, length-map}
use lib.Seq.{take-append_seam, take-length, length-take-le}
use Rattle.std.specs.Prelude.{Result, Ok, Err, IsErrAnd}
use Rattle.rows.specs.Lists.{front}
use Rattle.rows.proofs.Never.{never}
use Rattle.model.specs.Columns.{shares_in}
use Rattle.model.specs.Packed.{slices_in}
use Rattle.model.specs.Refusal.{Answer, given, refused, says, says_refusal, and_then, room_refusal}
use Rattle.model.specs.ShareRow.{row_of, ticks_of_row}
use Rattle.model.specs.Split.{Ticks}
use Rattle.model.specs.declared.Board.{Board}
use Rattle.model.specs.declared.Job.{Job}
use Rattle.model.specs.declared.Refusal.{Refusal}
use Rattle.model.specs.declared.Refusal.TheVariants.{TooShort}
use Rattle.model.specs.declared.Share.{Share}
use Rattle.model.specs.declared.Slice.{Slice}
use Rattle.model.proofs.ShareRow.{rows_back}
use Rattle.split.specs.Shares.{shares_of}
use Rattle.split.proofs.Demands.{room-only, exactly}
use Rattle.slices.specs.Table.{table_of}
use Rattle.columns.specs.Plan.{Plan, plan_from, fitted, plan_of, shares_given, slices_given, counts_in}
use Rattle.columns.specs.declared.Counts.{Counts}
use Rattle.columns.proofs.PlanLaws.{counts-are}
use Rattle.planner.specs.Promise.{Unchanged, Served, Promised}
use Rattle.planner.specs.InColumns.{whole_plan, fit_of, Filled}
use Rattle.planner.specs.declared.Tables.{Tables}
use Rattle.planner.proofs.PlanKept.{plan-kept}
use Rattle.planner.proofs.PlanTables.{plan-whole, plan_in, jobs-are, slices-are}

-- A plan is refused for room exactly where its shares are.
pub counts-room : (x : Answer Plan) → room_refusal (counts_in x) ≡ room_refusal x
counts-room (given p) = refl
counts-room (refused number place) = refl

pub plan-room : (board : Board) (n : ℕ) (js : List Job) (m k : ℕ) → room_refusal (plan_of board n js m k) ≡ room_refusal (shares_of board n js)
plan-room board n js m k = go (shares_of board n js)
  where
    fits : (ss : List Ticks) (t : Bool) → room_refusal (cond t (refused 7 0) (given (plan_from board ss))) ≡ false
    fits ss true = refl
    fits ss false = refl

    go : (x : Answer (List Ticks)) → room_refusal (and_then x (λ (ss : List Ticks). fitted m k (plan_from board ss))) ≡ room_refusal x
    go (given ss) = fits ss (ltb m (length ss) || ltb k (length (table_of board.window ss)))
    go (refused number place) = refl

-- And then it is refused alike, whatever is made of the shares.
pub room-alike : (x : Answer (List Ticks)) (f g : List Ticks → Answer Plan) → room_refusal x ≡ true → counts_in (and_then x f) ≡ counts_in (and_then x g)
room-alike (given ss) f g e = absurd (false≢true e)
room-alike (refused number place) f g e = refl

-- Counts that fit tables have rows for themselves there.
fit-rows : (c : Counts) (m k : ℕ) → fit_of c m k ≡ Ok tt → (c.jobs ≤ m) × (c.slices ≤ k)
fit-rows c m k e = go (ltb m c.jobs) (ltb k c.slices) refl refl e
  where
    go : (s t : Bool) → ltb m c.jobs ≡ s → ltb k c.slices ≡ t → cond {A = Result (Unit {0}) Refusal} (s || t) (Err TooShort) (Ok tt) ≡ Ok tt → (c.jobs ≤ m) × (c.slices ≤ k)
    go false false a b e = (ltb-false _ _ a, ltb-false _ _ b)
    go true t a b e = never (cc)
    go false true a b e = never (cc)

module _ (board : Board) (js : List Job) (ss : List Share) (ls : List Slice) where
  abbrev n : ℕ
  n = length js

  abbrev plan : Answer Plan
  plan = plan_of board n js (length ss) (length ls)

  -- ---- the demands
  module _ (ss' : List Share) (ls' : List Slice) where
    -- A refusal leaves both tables as they were, and a plan keeps demand 2.
    abbrev Stands : Result Counts Refusal → Type 0
    Stands r = Unchanged r ss ss' ls ls' × Served board js r ss' ls'

    stands : (r : Result Counts Refusal) (x : Answer Plan) → plan ≡ x → says r ≡ counts_in x → ss' ≡ front (map row_of (shares_given x)) ss
        → ls' ≡ front (slices_given x) ls → Stands r
    stands (Ok c) (given p) is told shares-are slices-are =
        let counts = counts-are c (given p) told in
        let size : c.jobs ≡ length (map row_of p.shares) = counts.0 ∙ sym (length-map p.shares row_of) in
        let a : map ticks_of_row (take c.jobs ss') ≡ p.shares = rw (shares-are, size, take-append_seam (map row_of p.shares) _) (rows_back p.shares) in
        let b : take c.slices ls' ≡ p.slices = rw (slices-are, counts.1) (take-append_seam p.slices _) in
        (tt, rw (a, b) (plan-kept board n js (length ss) (length ls) is))
    stands (Ok c) (refused number place) is told shares-are slices-are = never (cc)
    stands (Err e) (given p) is told shares-are slices-are = never (cc)
    stands (Err e) (refused number place) is told shares-are slices-are = ((shares-are, slices-are), tt)

    promised : (r : Result Counts Refusal) → says r ≡ counts_in plan → ss' ≡ front (map row_of (shares_given plan)) ss → ls' ≡ front (slices_given plan) ls
        → Promised board js ss ls r ss' ls'
    promised r answer shares slices =
        record {
          answer = answer;
          shares = shares;
          slices = slices;
          demand1 = both.0;
          demand2 = both.1;
          demand3 =
              record {
                only = rw for-room (room-only board n js);
                exactly = rw for-room (exactly board n js);
              };
        }
      where
        for-room : room_refusal (says r) ≡ room_refusal (shares_of board n js)
        for-room = rw answer (counts-room plan ∙ plan-room board n js (length ss) (length ls))

        both : Stands r
        both = stands r plan refl answer shares slices

  -- ---- a refusal, of the set or of the tables
  refuses : (e : Refusal) → plan ≡ says_refusal e → Promised board js ss ls (Err e) ss ls
  refuses e is =
      promised ss ls (Err e) (sym (ap counts_in is)) (sym (ap (λ (x : Answer Plan). front (map row_of (shares_given x)) ss) is))
      (sym (ap (λ (x : Answer Plan). front (slices_given x) ls) is))

  -- The plan for any tables goes on with these.
  went : {x : Answer Plan} → x ≡ whole_plan board n js → plan ≡ and_then x (fitted (length ss) (length ls))
  went e = rw e (plan-whole board n js (length ss) (length ls))

  module _ (t : Tables) where
    -- As many jobs are planned as there are.
    abbrev All : Result Counts Refusal → Type 0
    All r = Filled board n (take n js) r t

    pub lent-refused : (r : Result Counts Refusal) (e : Refusal) → IsErrAnd r (λ (x : Refusal). x ≡ e) → All (Err e) → Promised board js ss ls r ss ls
    lent-refused (Err r) e is filled = rw is (refuses e (went (rw (take-length js) at filled.says)))
    lent-refused (Ok c) e is filled = absurd is

    module _ (c : Counts) (filled : All (Ok c)) where
      abbrev p : Plan
      p = plan_in c t

      fits : plan ≡ cond (ltb (length ss) c.jobs || ltb (length ls) c.slices) (refused 7 0) (given p)
      fits = rw (jobs-are c t, slices-are c t) at (went (rw (take-length js) at filled.says))

      pub lent-short : (r : Result Counts Refusal) (e : Refusal) → IsErrAnd r (λ (x : Refusal). x ≡ e) → Err e ≡ fit_of c (length ss) (length ls)
          → Promised board js ss ls r ss ls
      lent-short (Err r) e is short = rw is (refuses e (fits ∙ go (ltb (length ss) c.jobs || ltb (length ls) c.slices) short))
        where
          go : (b : Bool) → Err e ≡ cond {A = Result (Unit {0}) Refusal} b (Err TooShort) (Ok tt) → cond {A = Answer Plan} b (refused 7 0) (given p) ≡ says_refusal e
          go true short = let is : TooShort ≡ e = cc in ap says_refusal is
          go false short = never (cc)
      lent-short (Ok d) e is short = absurd is

      -- The first rows of both tables were made those of the plan.
      pub lent-planned : (first : List Share) (second : List Slice) → Ok tt ≡ fit_of c (length ss) (length ls)
          → first ≡ map row_of (shares_in (length (take c.jobs ss)) t.first t.second) → second ≡ slices_in (length (take c.slices ls)) t.slices
          → Promised board js ss ls (Ok c) (first ++ drop c.jobs ss) (second ++ drop c.slices ls)
      lent-planned first second enough shares slices =
          let rows = fit-rows c (length ss) (length ls) (sym enough) in
          let is : plan ≡ given p = fits ∙ go (ltb (length ss) c.jobs || ltb (length ls) c.slices) enough in
          promised (first ++ drop c.jobs ss) (second ++ drop c.slices ls) (Ok c) (rw (← jobs-are c t, ← slices-are c t) (sym (ap counts_in is)))
          (rw (shares, length-take-le c.jobs ss rows.0) (rw (length-map p.shares row_of, jobs-are c t) at (sym (ap (λ (x : Answer Plan). front (map row_of (shares_given x)) ss) is))))
          (rw (slices, length-take-le c.slices ls rows.1) (rw (slices-are c t) at (sym (ap (λ (x : Answer Plan). front (slices_given x) ls) is))))
        where
          go : (b : Bool) → Ok tt ≡ cond {A = Result (Unit {0}) Refusal} b (Err TooShort) (Ok tt) → cond {A = Answer Plan} b (refused 7 0) (given p) ≡ given p
          go true enough = never (cc)
          go false enough = refl
