-- What is known of an accepted plan, in numbers: every count, share and slice of it is within the bytes that it is written in. Assumes nothing.
--   small     the bounds of an accepted plan
--   narrow    so that each slice of it is the slice of its number
use mathlib.Core.Path.{◌≡◌}
use mathlib.Core.List.{List}
use Prim.Native.Nat.{ℕ, ◌+◌, ◌≤◌, ◌<◌}
use native.Mathlib.Omega.{arith}
use lib.ListN.{length}
use Rattle.rows.specs.Lists.{All}
use Rattle.rows.proofs.Lists.{all_map}
use Rattle.model.specs.Board.{cores_of}
use Rattle.model.specs.Limits.{window_most, cores_most, jobs_most, slices_most}
use Rattle.model.specs.Terms.{Narrow}
use Rattle.model.specs.Refusal.{given}
use Rattle.model.specs.Timetable.{Inside}
use Rattle.model.specs.Split.{Ticks}
use Rattle.model.specs.declared.Kind.{Kind}
use Rattle.model.specs.declared.Kind.TheVariants.{First, Second}
use Rattle.model.specs.declared.Board.{Board}
use Rattle.model.specs.declared.Job.{Job}
use Rattle.model.specs.declared.Slice.{Slice}
use Rattle.model.proofs.Splits.{all-done-length}
use Rattle.legal.specs.Lawful.{Lawful}
use Rattle.columns.specs.Plan.{Plan, plan_of}
use Rattle.columns.proofs.PlanLaws.{shares-lawful, shares-accepted, accepted-fits}
use Rattle.planner.proofs.PlanKept.{plan-shares, plan-kept}

abbrev SmallSlice : Slice → Type 0
SmallSlice s = (s.job < jobs_most) × (s.core < cores_most) × (s.start + s.length ≤ window_most)

pub record Small (p : Plan) : Type 0 where
  pub few-jobs : length p.shares ≤ jobs_most
  pub few-slices : length p.slices ≤ slices_most
  pub each-share : All (λ (s : Ticks). s.first + s.second ≤ window_most) p.shares
  pub each-slice : All SmallSlice p.slices

module _ (board : Board) (js : List Job) (m k : ℕ) {p : Plan} (is : plan_of board (length js) js m k ≡ given p) where
  pub small : Small p
  small =
      let made = plan-shares board (length js) js m k is in
      let law = shares-lawful board (length js) js made.0 in
      let kept = plan-kept board (length js) js m k is in
      let fits = accepted-fits board (length js) js p.shares law (shares-accepted board (length js) js made.0) in
      let size = all-done-length board.window 1 js p.shares kept.whole.done in
      record {
        few-jobs = omega (arith, law.few);
        few-slices = omega (arith, kept.few, law.few, law.first-most, law.second-most);
        each-share = all_map (λ (s : Ticks). s.first + s.second ≤ board.window) _ (λ s h. omega (arith, law.window-most)) p.shares fits.each;
        each-slice = all_map (Inside board (length p.shares)) SmallSlice (inside law size) p.slices kept.timetable.inside;
      }
    where
      few-cores : Lawful board (length js) js → (kind : Kind) → cores_of board kind ≤ cores_most
      few-cores law First = law.first-most
      few-cores law Second = law.second-most

      inside : Lawful board (length js) js → length p.shares ≡ length js → (s : Slice) → Inside board (length p.shares) s → SmallSlice s
      inside law size s h =
          (omega (arith, h.job, law.few), omega (arith, h.core, few-cores law s.kind), omega (arith, h.ends, law.window-most))

  pub narrow : All Narrow p.slices
  narrow =
      all_map SmallSlice Narrow (λ s h. record { job = omega arith; core = omega arith; start = omega arith; length = omega arith }) p.slices small.each-slice
