-- The output of the whole example of docs/SPEC.md, "The text", written by the definitions, worked out by computation. Assumes nothing.
use mathlib.Core.List.{[], ◌∷◌}
use mathlib.Core.Path.{◌≡◌, refl}
use Prim.Native.Nat.{ℕ}
use Rattle.model.specs.Split.{share}
use Rattle.model.specs.declared.Kind.{Kind}
use Rattle.model.specs.declared.Kind.TheVariants.{First, Second}
use Rattle.model.specs.declared.Slice.{Slice}
use Rattle.text.specs.Hex.{digits_of, text_of}
use Rattle.text.specs.Output.{share_records, plan_text}

abbrev slice : ℕ → Kind → ℕ → ℕ → ℕ → Slice
slice job kind core start length = record { job = job; kind = kind; core = core; start = start; length = length }

-- 100203, 110000060000, 110100040003, 1201010000000004, 1200010000040006, 1201020000070003
pub written-example : plan_text (share 6 0 ∷ share 4 3 ∷ []) (slice 1 First 0 0 4 ∷ slice 0 First 0 4 6 ∷ slice 1 Second 0 7 3 ∷ [])
    ≡ text_of
    ((16 ∷ 2 ∷ 3 ∷ []) ∷ (17 ∷ 0 ∷ 0 ∷ 6 ∷ 0 ∷ 0 ∷ []) ∷ (17 ∷ 1 ∷ 0 ∷ 4 ∷ 0 ∷ 3 ∷ [])
    ∷ (18 ∷ 1 ∷ 1 ∷ 0 ∷ 0 ∷ 0 ∷ 0 ∷ 4 ∷ []) ∷ (18 ∷ 0 ∷ 1 ∷ 0 ∷ 0 ∷ 4 ∷ 0 ∷ 6 ∷ []) ∷ (18 ∷ 1 ∷ 2 ∷ 0 ∷ 0 ∷ 7 ∷ 0 ∷ 3 ∷ []) ∷ [])
unfolding digits_of text_of share_records
written-example = refl
