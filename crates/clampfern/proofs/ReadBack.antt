-- The lines of a plan, read by the rules of the format, give its records back: no count, start, length or share is too great for the bytes that it is
-- written in. The bounds are those of an accepted plan. Assumes nothing.
--   plan-records    the records of a plan are bytes
--   plan-back       so they are what its lines say
use mathlib.Core.Path.{◌≡◌}
use mathlib.Core.List.{List, [], ◌∷◌, map}
use Prim.Native.Nat.{ℕ, ◌+◌, ◌≤◌, ◌<◌}
use native.Mathlib.Omega.{arith}
use lib.ListN.{length}
use Rattle.std.specs.Prelude.{Some}
use Rattle.rows.specs.Lists.{All}
use Rattle.rows.proofs.Lists.{all_append}
use Rattle.model.specs.Packed.{kind_number}
use Rattle.model.specs.Terms.{Narrow}
use Rattle.model.specs.Limits.{window_most}
use Rattle.model.specs.Refusal.{given}
use Rattle.model.specs.Split.{Ticks}
use Rattle.model.specs.declared.Kind.{Kind}
use Rattle.model.specs.declared.Kind.TheVariants.{First, Second}
use Rattle.model.specs.declared.Board.{Board}
use Rattle.model.specs.declared.Job.{Job}
use Rattle.model.specs.declared.Slice.{Slice}
use Rattle.columns.specs.Plan.{Plan, plan_of}
use Rattle.text.specs.Hex.{lines_of, bytes_of}
use Rattle.text.specs.Output.{share_records, slice_record, plan_records, plan_text}
use Rattle.text.proofs.RoundTrip.{IsRecord, read_back}
use Rattle.clampfern.proofs.Bounds.{Small, small, narrow}

shares-records : (i : ℕ) (ss : List Ticks) → i + length ss ≤ 256 → All (λ (s : Ticks). s.first + s.second ≤ window_most) ss
    → All IsRecord (share_records i ss)
unfolding share_records
shares-records i [] few small = tt
shares-records i (s ∷ ss) few small = (omega (arith, small.0), shares-records (i + 1) ss (omega arith) small.1)

kind-byte : (k : Kind) → kind_number k < 256
kind-byte First = omega arith
kind-byte Second = omega arith

slices-records : (rows : List Slice) → All Narrow rows → All IsRecord (map slice_record rows)
slices-records [] small = tt
slices-records (s ∷ rows) small =
    let n = small.0 in
    (omega (arith, kind-byte s.kind, n.job, n.core, n.start, n.length), slices-records rows small.1)

module _ (board : Board) (js : List Job) (m k : ℕ) {p : Plan} (is : plan_of board (length js) js m k ≡ given p) where
  abbrev within : Small p
  within = small board js m k is

  pub plan-records : All IsRecord (plan_records p.shares p.slices)
  plan-records = (
    omega (arith, within.few-jobs, within.few-slices),
    all_append IsRecord (share_records 0 p.shares) (map slice_record p.slices) (shares-records 0 p.shares (omega (arith, within.few-jobs)) within.each-share)
        (slices-records p.slices (narrow board js m k is)),
  )

  pub plan-back : map bytes_of (lines_of (plan_text p.shares p.slices)) ≡ map (λ (r : List ℕ). Some r) (plan_records p.shares p.slices)
  plan-back = read_back (plan_records p.shares p.slices) plan-records
