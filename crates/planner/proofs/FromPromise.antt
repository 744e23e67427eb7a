-- What follows from the promise of the planning call alone: the cases of the definition are taken apart here once, for the pages that state the
-- demands. Assumes nothing.
--   PlanThere          of an accepted plan: it has a share for each job, the rows that it counts are there and are the definition's, and those
--                      past them are as they were
--   plan-there         an accepted plan is there
--   rows-pair          what every two rows of a plan's table have between them, by their numbers
--   refusal-by-rules   a refusal is the one that the definition of the plan gives
use mathlib.Core.Path.{◌≡◌, refl, sym, ap, ◌∙◌}
use mathlib.Core.List.{List, map}
use Prim.Native.Nat.{ℕ, ◌<◌}
use native.Mathlib.Omega.{arith}
use lib.ListN.{length, take, drop, get_or, length-map}
use lib.Seq.{get_or-take}
use Rattle.std.specs.Prelude.{Ok, Err}
use Rattle.rows.specs.Lists.{Pairs}
use Rattle.rows.proofs.Never.{never}
use Rattle.rows.proofs.Walk.{front-rows}
use Rattle.rows.proofs.Lists.{pairs-at}
use Rattle.model.specs.Empty.{no_slice}
use Rattle.model.specs.Refusal.{Answer, given, refused, says_refusal}
use Rattle.model.specs.ShareRow.{row_of, ticks_of_row}
use Rattle.model.specs.Split.{Ticks}
use Rattle.model.specs.declared.Board.{Board}
use Rattle.model.specs.declared.Job.{Job}
use Rattle.model.specs.declared.Refusal.{Refusal}
use Rattle.model.specs.declared.Share.{Share}
use Rattle.model.specs.declared.Slice.{Slice}
use Rattle.model.proofs.ShareRow.{rows_back}
use Rattle.model.proofs.Splits.{all-done-length}
use Rattle.columns.specs.Plan.{Plan, plan_of, shares_given, slices_given, counts_in}
use Rattle.columns.specs.declared.Counts.{Counts}
use Rattle.columns.proofs.PlanLaws.{counts-are}
use Rattle.planner.specs.Promise.{Promised}

pub record PlanThere (board : Board) (js : List Job) (ss ss' : List Share) (ls ls' : List Slice) (c : Counts) : Type 0 where
  pub all : c.jobs ≡ length js
  pub share-rows : length (take c.jobs ss') ≡ c.jobs
  pub slice_rows : length (take c.slices ls') ≡ c.slices
  pub by-rules : plan_of board (length js) js (length ss) (length ls) ≡ given (record { shares = map ticks_of_row (take c.jobs ss'); slices = take c.slices ls' })
  pub shares-past : drop c.jobs ss' ≡ drop c.jobs ss
  pub slices-past : drop c.slices ls' ≡ drop c.slices ls

plan-of : (ss : List Ticks) (ls : List Slice) (counts : Counts) (x : Answer Plan) → given counts ≡ counts_in x → ss ≡ shares_given x → ls ≡ slices_given x
    → x ≡ given (record { shares = ss; slices = ls })
plan-of ss ls counts (given p) told shares slices = rw (shares, slices) refl
plan-of ss ls counts (refused number place) told shares slices = never (cc)

pub plan-there : {board : Board} {js : List Job} {ss ss' : List Share} {ls ls' : List Slice} {c : Counts}
    → Promised board js ss ls (Ok c) ss' ls' → PlanThere board js ss ss' ls ls' c
plan-there {board} {js} {ss} {ss'} {ls} {ls'} {c} p =
    let x = plan_of board (length js) js (length ss) (length ls) in
    let counts = counts-are c x p.answer in
    let shares = front-rows (map row_of (shares_given x)) ss ss' c.jobs (counts.0 ∙ sym (length-map (shares_given x) row_of)) p.shares in
    let told : map ticks_of_row (take c.jobs ss') ≡ shares_given x = ap (map ticks_of_row) shares.0 ∙ rows_back (shares_given x) in
    let rows = front-rows (slices_given x) ls ls' c.slices counts.1 p.slices in
    record {
      all = counts.0 ∙ ap length (sym told) ∙ all-done-length board.window 1 js (map ticks_of_row (take c.jobs ss')) p.demand2.whole.done;
      share-rows = omega (arith, counts.0, ap length shares.0, length-map (shares_given x) row_of);
      slice_rows = omega (arith, counts.1, ap length rows.0);
      by-rules = plan-of (map ticks_of_row (take c.jobs ss')) (take c.slices ls') c x p.answer told rows.0;
      shares-past = shares.1;
      slices-past = rows.1;
    }

pub rows-pair : {board : Board} {js : List Job} {ss ss' : List Share} {ls ls' : List Slice} {c : Counts}
    → Promised board js ss ls (Ok c) ss' ls' → (R : Slice → Slice → Type 0) → Pairs R (take c.slices ls')
    → (i k : ℕ) → i < k → k < c.slices → R (get_or ls' i no_slice) (get_or ls' k no_slice)
rows-pair {ls' = ls'} {c = c} p R h i k l m =
    rw (get_or-take c.slices ls' i no_slice (omega arith), get_or-take c.slices ls' k no_slice m) at
    (pairs-at R no_slice (take c.slices ls') i k l (omega (arith, (plan-there p).slice_rows)) h)

pub refusal-by-rules : {board : Board} {js : List Job} {ss ss' : List Share} {ls ls' : List Slice} {r : Refusal}
    → Promised board js ss ls (Err r) ss' ls' → plan_of board (length js) js (length ss) (length ls) ≡ says_refusal r
refusal-by-rules {board} {js} {ss} {ss'} {ls} {ls'} {r} p = go (plan_of board (length js) js (length ss) (length ls)) p.answer
  where
    go : (x : Answer Plan) → says_refusal r ≡ counts_in x → x ≡ says_refusal r
    go (given q) told = never (cc)
    go (refused number place) told = cc
