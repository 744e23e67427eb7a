-- A plan keeps demand 2, for the shares that it is made of are accepted. Assumes nothing.
--   plan-shares    a plan is made of the shares that are given, and of their table
--   plan-kept      a plan keeps demand 2
--   columns-kept   so does a plan in columns, and it is of a lawful set
use mathlib.Core.Path.{◌≡◌, refl, sym, ap, ◌∙◌}
use mathlib.Core.Bool.{Bool, true, false, cond, ◌||◌}
use mathlib.Core.List.{List}
use Prim.Native.Nat.{ℕ}
use lib.Dec.{ltb}
use lib.ListN.{length}
use Rattle.rows.proofs.Never.{never}
use Rattle.model.specs.Refusal.{Answer, given, refused, and_then}
use Rattle.model.specs.Split.{Ticks}
use Rattle.model.specs.declared.Board.{Board}
use Rattle.model.specs.declared.Job.{Job}
use Rattle.legal.specs.Lawful.{Lawful}
use Rattle.split.specs.Promise.{Accepted}
use Rattle.split.specs.Shares.{shares_of}
use Rattle.slices.specs.Table.{table_of}
use Rattle.slices.proofs.Timetabled.{table-timetable}
use Rattle.columns.specs.Plan.{Plan, plan_from, fitted, plan_of, too_short, columns_of}
use Rattle.planner.specs.Promise.{GoodPlan}
use Rattle.columns.proofs.PlanLaws.{shares-lawful, shares-accepted, accepted-fits, accepted-few}

module _ (board : Board) (n : ℕ) (js : List Job) where
  accepted-kept : (ss : List Ticks) → Lawful board n js → Accepted board js ss → GoodPlan board js ss (table_of board.window ss)
  accepted-kept ss law ok =
      record {
        whole = ok.whole;
        timetable = table-timetable board ss (accepted-fits board n js ss law ok);
        few-movers = ok.few-movers;
        one-uneven = ok.one-uneven;
        few = accepted-few board n js ss law ok;
      }

  module _ (m k : ℕ) where
    pub plan-shares : {p : Plan} → plan_of board n js m k ≡ given p
        → (shares_of board n js ≡ given p.shares) × (p.slices ≡ table_of board.window p.shares)
    plan-shares {p} e = go (shares_of board n js) refl e
      where
        Made : Type 0
        Made = (shares_of board n js ≡ given p.shares) × (p.slices ≡ table_of board.window p.shares)

        one : (ss : List Ticks) → shares_of board n js ≡ given ss → (t : Bool)
            → cond t (refused 7 0) (given (plan_from board ss)) ≡ given p → Made
        one ss is true e = never (cc)
        one ss is false e =
            let same : ◌≡◌ {A = Plan} (plan_from board ss) p = cc in
            (is ∙ ap (λ (q : Plan). given q.shares) same, sym (ap (λ (q : Plan). q.slices) same) ∙ ap (λ (q : Plan). table_of board.window q.shares) same)

        go : (x : Answer (List Ticks)) → shares_of board n js ≡ x
            → and_then x (λ (ss : List Ticks). fitted m k (plan_from board ss)) ≡ given p → Made
        go (given ss) is e = one ss is (ltb m (length ss) || ltb k (length (table_of board.window ss))) e
        go (refused number place) is e = never (cc)

    pub plan-kept : {p : Plan} → plan_of board n js m k ≡ given p → GoodPlan board js p.shares p.slices
    plan-kept {p} e =
        let made = plan-shares e in
        rw made.1 (accepted-kept p.shares (shares-lawful board n js made.0) (shares-accepted board n js made.0))

  pub columns-kept : (m1 m2 k : ℕ) {p : Plan} → columns_of board n js m1 m2 k ≡ given p → Lawful board n js × GoodPlan board js p.shares p.slices
  columns-kept m1 m2 k {p} e = go (shares_of board n js) refl e
    where
      one : (ss : List Ticks) → shares_of board n js ≡ given ss → (t : Bool) → cond t (refused 7 0) (given (plan_from board ss)) ≡ given p
          → Lawful board n js × GoodPlan board js p.shares p.slices
      one ss is true e = never (cc)
      one ss is false e =
          let same : ◌≡◌ {A = Plan} p (plan_from board ss) = cc in
          (shares-lawful board n js is, rw same (accepted-kept ss (shares-lawful board n js is) (shares-accepted board n js is)))

      go : (x : Answer (List Ticks)) → shares_of board n js ≡ x
          → and_then x (λ (ss : List Ticks). cond (too_short m1 m2 k) (refused 7 0) (given (plan_from board ss))) ≡ given p
          → Lawful board n js × GoodPlan board js p.shares p.slices
      go (given ss) is e = one ss is (too_short m1 m2 k) e
      go (refused number place) is e = never (cc)
