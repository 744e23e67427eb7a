-- A table of the planner holds a timetable of the shares that it gave, whichever call made it: the answer's cases are taken apart here once, for
-- the page of the window. One idea: what is counted stands at the front of the lent columns or tables. Of the planner only its promises and its
-- public laws are cited. Assumes nothing.
--   good-tabled      a good plan of a lawful set is a table that can be run
--   columns-tabled   of the call over columns, with the shares as the columns have them
--   lent-tabled      of the call over lent records
use mathlib.Core.Path.{◌≡◌, refl, sym, ap, ◌∙◌}
use mathlib.Core.List.{List, ◌++◌, map}
use Prim.Native.Nat.{ℕ, ◌<◌}
use native.Mathlib.Omega.{arith}
use lib.ListN.{length, take, get_or, length-take, length-map, get_or-append, get_or-map}
use lib.Seq.{get_or-take}
use Rattle.std.specs.Prelude.{Ok}
use Rattle.rows.specs.Upto.{at}
use Rattle.rows.proofs.Never.{never}
use Rattle.rows.proofs.Upto.{upto-length}
use Rattle.rows.proofs.Walk.{front-rows}
use Rattle.model.specs.Board.{on}
use Rattle.model.specs.Columns.{job_at, jobs_in}
use Rattle.model.specs.Empty.{no_share}
use Rattle.model.specs.Packed.{pack_of}
use Rattle.model.specs.Refusal.{Answer, given, refused}
use Rattle.model.specs.ShareRow.{ticks_of_row}
use Rattle.model.specs.Split.{Ticks, share, ticks_on}
use Rattle.model.specs.declared.Kind.{Kind}
use Rattle.model.specs.declared.Kind.TheVariants.{First, Second}
use Rattle.model.specs.declared.Board.{Board}
use Rattle.model.specs.declared.Job.{Job}
use Rattle.model.specs.declared.Share.{Share}
use Rattle.model.specs.declared.Slice.{Slice}
use Rattle.model.proofs.Packed.{inside-narrow}
use Rattle.model.proofs.Splits.{all-done-length}
use Rattle.legal.specs.Lawful.{Lawful}
use Rattle.columns.specs.Plan.{Plan, columns_of, counts_in, shares_given, slices_given}
use Rattle.columns.specs.Promise.{Columned}
use Rattle.columns.proofs.PlanLaws.{counts-are, shares-lawful}
use Rattle.planner.specs.Promise.{GoodPlan, Promised}
use Rattle.planner.proofs.Demands.{rows-there, rows-by-rules}
use Rattle.planner.proofs.PlanKept.{plan-shares, columns-kept}
use Rattle.handler.proofs.Tabled.{Tabled}

module _ (board : Board) (n : ℕ) (js : List Job) where
  -- A lawful set's plan that is good is a table that can be run.
  pub good-tabled : (ss : List Ticks) (rows : List Slice) → length js ≡ n → Lawful board n js → GoodPlan board js ss rows
      → Tabled board ss rows (map pack_of rows)
  good-tabled ss rows size law good =
      record {
        passed =
            record {
              window = (law.window-some, law.window-most);
              first = (law.first_some, law.first-most);
              second = (law.second-some, law.second-most);
            };
        timetable = good.timetable;
        narrow =
            inside-narrow board law.window-most law.first-most law.second-most (length ss)
            (omega (arith, law.few, size, all-done-length board.window 1 js ss good.whole.done)) rows good.timetable.inside;
        is = refl;
      }

-- The ticks of a share, at the front of a column.
front_at : (kind : Kind) (ss : List Ticks) (behind : List ℕ) (job : ℕ) → job < length ss
    → ticks_on kind (get_or ss job (share 0 0)) ≡ at (map (ticks_on kind) ss ++ behind) job
front_at kind ss behind job l =
    sym (get_or-append (map (ticks_on kind) ss) behind 0 job (rw (length-map ss (ticks_on kind)) l) ∙ none kind)
  where
    none : (kind : Kind) → at (map (ticks_on kind) ss) job ≡ ticks_on kind (get_or ss job (share 0 0))
    none First = get_or-map (ticks_on First) ss job (share 0 0)
    none Second = get_or-map (ticks_on Second) ss job (share 0 0)

module _ {board : Board} {n : ℕ} (c1 c2 : List ℕ) {s1 s2 rows s1' s2' rows' : List ℕ} {jobs slices : ℕ}
    (c : Columned board n (jobs_in n c1 c2) s1 s2 rows (Ok (record { jobs = jobs; slices = slices })) s1' s2' rows') where
  abbrev pub made : Answer Plan
  made = columns_of board n (jobs_in n c1 c2) (length s1) (length s2) (length rows)

  pub columns-counts : (jobs ≡ length (shares_given made)) × (slices ≡ length (slices_given made))
  columns-counts = counts-are (record { jobs = jobs; slices = slices }) made c.says

  pub columns-tabled : Tabled board (shares_given made) (slices_given made) (take slices rows')
  columns-tabled =
      let size : slices ≡ length (map pack_of (slices_given made)) = columns-counts.1 ∙ sym (length-map (slices_given made) pack_of) in
      rw (front-rows (map pack_of (slices_given made)) rows rows' slices size c.slices).0 (go made refl c.says)
    where
      go : (x : Answer Plan) → made ≡ x → given (record { jobs = jobs; slices = slices }) ≡ counts_in x
          → Tabled board (shares_given x) (slices_given x) (map pack_of (slices_given x))
      go (given p) is says =
          let kept = columns-kept board n (jobs_in n c1 c2) (length s1) (length s2) (length rows) is in
          good-tabled board n (jobs_in n c1 c2) p.shares p.slices (upto-length n (λ i. job_at (at c1 i) (at c2 i))) kept.0 kept.1
      go (refused number place) is says = never (cc)

  pub columns-share : (kind : Kind) (job : ℕ) → job < jobs
      → ticks_on kind (get_or (shares_given made) job (share 0 0)) ≡ on kind (at s1' job) (at s2' job)
  columns-share First job l = rw c.first (front_at First (shares_given made) _ job (omega (arith, columns-counts.0)))
  columns-share Second job l = rw c.second (front_at Second (shares_given made) _ job (omega (arith, columns-counts.0)))

-- The call over lent records.
module _ {board : Board} {js : List Job} {ss ss' : List Share} {ls ls' : List Slice} {jobs slices : ℕ}
    (p : Promised board js ss ls (Ok (record { jobs = jobs; slices = slices })) ss' ls') where
  pub lent-tabled : Tabled board (map ticks_of_row (take jobs ss')) (take slices ls') (map pack_of (take slices ls'))
  lent-tabled =
      good-tabled board (length js) js (map ticks_of_row (take jobs ss')) (take slices ls') refl
      (shares-lawful board (length js) js (plan-shares board (length js) js (length ss) (length ls) (rows-by-rules p)).0) p.demand2

  pub lent-counts : length (map ticks_of_row (take jobs ss')) ≡ jobs
  lent-counts = length-map (take jobs ss') ticks_of_row ∙ omega (arith, length-take jobs ss', (rows-there p).1)

  pub lent-share : (kind : Kind) (job : ℕ) → job < jobs
      → ticks_on kind (get_or (map ticks_of_row (take jobs ss')) job (share 0 0)) ≡ ticks_on kind (ticks_of_row (get_or ss' job no_share))
  lent-share kind job l =
      ap (ticks_on kind) (get_or-map ticks_of_row (take jobs ss') job no_share ∙ ap ticks_of_row (get_or-take jobs ss' job no_share l))
