-- The promise of `plan_columns`, of each of its answers: what it puts into columns is the plan's. Assumes nothing.
--   ticks_after, slices_after   a column of ticks and one of slices after the call, by what it answers
--   columns-enough              columns that are not too short have a row for each job and for each slice of every plan
--   columned-refused            a set that gets no shares; what the check finds alone, as the next
--   columned-short              columns that are too short
--   columned-plan               a plan
use mathlib.Core.Path.{◌≡◌, refl, sym, ap, ◌∙◌}
use mathlib.Core.Bool.{Bool, true, false, cond, ◌||◌}
use mathlib.Core.List.{List, ◌++◌, map}
use Prim.Native.Nat.{ℕ, ◌≤◌}
use borrow.Author.Tests.{ltb-false}
use lib.Dec.{ltb}
use lib.ListN.{length, take, drop, length-map}
use lib.Seq.{length-take-le}
use Rattle.std.specs.Prelude.{Ok, Err}
use Rattle.rows.specs.Upto.{at}
use Rattle.rows.specs.Lists.{front}
use Rattle.rows.proofs.Never.{never}
use Rattle.rows.proofs.Upto.{upto-length}
use Rattle.model.specs.Columns.{shares_in}
use Rattle.model.specs.Limits.{jobs_most, slices_most}
use Rattle.model.specs.Packed.{pack_of}
use Rattle.model.specs.Refusal.{Answer, given, refused, says_refusal, and_then}
use Rattle.model.specs.Split.{Ticks, share, ticks_on}
use Rattle.model.specs.declared.Kind.{Kind}
use Rattle.model.specs.declared.Kind.TheVariants.{First, Second}
use Rattle.model.specs.declared.Board.{Board}
use Rattle.model.specs.declared.Job.{Job}
use Rattle.model.specs.declared.Refusal.{Refusal}
use Rattle.model.specs.declared.Refusal.TheVariants.{TooShort}
use Rattle.split.specs.Shares.{shares_of}
use Rattle.slices.specs.Table.{table_of}
use Rattle.columns.specs.Packing.{Tabled}
use Rattle.columns.specs.Plan.{Plan, plan_from, shares_given, slices_given, counts_in, too_short, columns_of}
use Rattle.columns.specs.Promise.{Columned}
use Rattle.columns.proofs.ColumnFronts.{ticks-back, shares-taken}

abbrev pub ticks_after : Kind → List ℕ → Answer Plan → List ℕ
ticks_after k column x = front (map (ticks_on k) (shares_given x)) column

abbrev pub slices_after : List ℕ → Answer Plan → List ℕ
slices_after column x = front (map pack_of (slices_given x)) column

pub columns-enough : (m1 m2 k : ℕ) → too_short m1 m2 k ≡ false → (jobs_most ≤ m1) × (jobs_most ≤ m2) × (slices_most ≤ k)
columns-enough m1 m2 k e = go (ltb m1 jobs_most) (ltb m2 jobs_most) (ltb k slices_most) refl refl refl e
  where
    go : (a b c : Bool) → ltb m1 jobs_most ≡ a → ltb m2 jobs_most ≡ b → ltb k slices_most ≡ c → (a || b || c) ≡ false
        → (jobs_most ≤ m1) × (jobs_most ≤ m2) × (slices_most ≤ k)
    go false false false a b c e = (ltb-false _ _ a, ltb-false _ _ b, ltb-false _ _ c)
    go true q r a b c e = never (cc)
    go false true r a b c e = never (cc)
    go false false true a b c e = never (cc)

module _ (board : Board) (n : ℕ) (js : List Job) (s1 s2 rows : List ℕ) where
  abbrev answer : Answer Plan
  answer = columns_of board n js (length s1) (length s2) (length rows)

  -- A refusal leaves every column as it was.
  columned-none : (r : Refusal) → says_refusal r ≡ answer → Columned board n js s1 s2 rows (Err r) s1 s2 rows
  columned-none r e =
      record {
        says = ap counts_in e;
        first = ap (ticks_after First s1) e;
        second = ap (ticks_after Second s2) e;
        slices = ap (slices_after rows) e;
      }

  pub columned-refused : (r : Refusal) → says_refusal r ≡ shares_of board n js → Columned board n js s1 s2 rows (Err r) s1 s2 rows
  columned-refused r e =
      columned-none r
      (ap (λ (x : Answer (List Ticks)). and_then x (λ (ss : List Ticks). cond (too_short (length s1) (length s2) (length rows)) (refused 7 0) (given (plan_from board ss)))) e)

  pub columned-short : {ss : List Ticks} → shares_of board n js ≡ given ss → too_short (length s1) (length s2) (length rows) ≡ true
      → Columned board n js s1 s2 rows (Err TooShort) s1 s2 rows
  columned-short is e = columned-none TooShort (rw (is, e) refl)

  -- The shares of the first `count` numbers of two columns a and b, which are put into those that are lent.
  pub columned-plan : (count r : ℕ) (a b s1' s2' rows' : List ℕ) → count ≤ length a → count ≤ length b → shares_of board n js ≡ given (shares_in count a b)
      → too_short (length s1) (length s2) (length rows) ≡ false → s1' ≡ take count a ++ drop count s1 → s2' ≡ take count b ++ drop count s2
      → Tabled board.window (shares_in (length (take count a)) (take count a) (take count b)) rows rows' r
      → Columned board n js s1 s2 rows (Ok (record { jobs = count; slices = r })) s1' s2' rows'
  columned-plan count r a b s1' s2' rows' fits1 fits2 is long put1 put2 tabled' =
      let ss : List Ticks = shares_in count a b in
      let tabled : Tabled board.window ss rows rows' r = rw (shares-taken count a b fits1 fits2) at tabled' in
      let size : count ≡ length ss = sym (upto-length count (λ i. share (at a i) (at b i))) in
      let plan : given (plan_from board ss) ≡ answer = rw (is, long) refl in
      record {
        says = ap (λ (x : ℕ). given (record { jobs = x; slices = r })) size ∙ rw tabled.count (ap counts_in plan);
        first = put1 ∙ put First s1 a fits1 (ticks-back First count a b fits1) ∙ ap (ticks_after First s1) plan;
        second = put2 ∙ put Second s2 b fits2 (ticks-back Second count a b fits2) ∙ ap (ticks_after Second s2) plan;
        slices = tabled.slices ∙ rw (tabled.count, ← length-map (table_of board.window ss) pack_of) (ap (slices_after rows) plan);
      }
    where
      put : (k : Kind) (l c : List ℕ) → count ≤ length c → map (ticks_on k) (shares_in count a b) ≡ take count c
          → take count c ++ drop count l ≡ front (map (ticks_on k) (shares_in count a b)) l
      put k l c fits e = rw (e, length-take-le count c fits)
