-- Internal: no public promise cites this. The theorems on the page of demands do, so read it with them. What the bytes of an answer say, read by the
-- rules of the format: docs/SPEC.md, "The text". It reads what any writer wrote, so it stands apart from the lines that are written here.
--   then_read     what goes on where something was read
--   all_read      every element, where each was read
--   share_read    a share's record, of a given job
--   shares_read   such records, of jobs numbered one after the other
--   kind_read     the kind of its number in a text
--   slice_read    a slice's record
--   plan_read     the records after the counts: a share for each job in order, then each slice, as many as counted and no other
--   records_say   what the records of an answer say
--   said_of       what bytes say: a plan, or one refusal by its number and place; anything else says nothing
--   room_said     whether that is a refusal for room
-- Assumes nothing.
use Rattle.std.specs.Prelude.{Bool, false, cond, ◌&&◌, List, [], ◌∷◌, map, ℕ, ◌+◌, eqb, length, take, drop, Option, None, Some}
use Rattle.model.specs.Packed.{kind_number}
use Rattle.model.specs.Refusal.{Answer, given, refused, room_refusal}
use Rattle.model.specs.Split.{Ticks, share}
use Rattle.model.specs.declared.Kind.{Kind}
use Rattle.model.specs.declared.Kind.TheVariants.{First, Second}
use Rattle.model.specs.declared.Slice.{Slice}
use Rattle.columns.specs.Plan.{Plan}
use Rattle.text.specs.Hex.{lines_of, bytes_of}
use Rattle.text.specs.Records.{counts_form, share_form, slice_form, refusal_form, is_a, field}

abbrev pub then_read : {A B : Type 0} → Option A → (A → Option B) → Option B
then_read None f = None
then_read (Some a) f = f a

unfoldable pub all_read : {A : Type 0} → List (Option A) → Option (List A)
all_read [] = Some []
all_read {A} (x ∷ xs) = then_read x (λ (a : A). then_read (all_read xs) (λ (rest : List A). Some (a ∷ rest)))

unfoldable pub share_read : ℕ → List ℕ → Option Ticks
share_read job r = cond (is_a share_form r && eqb (field share_form 0 r) job) (Some (share (field share_form 1 r) (field share_form 2 r))) None

unfoldable pub shares_read : ℕ → List (List ℕ) → List (Option Ticks)
shares_read job [] = []
shares_read job (r ∷ rs) = share_read job r ∷ shares_read (job + 1) rs

abbrev pub kind_read : ℕ → Option Kind
kind_read b = cond (eqb b (kind_number First)) (Some First) (cond (eqb b (kind_number Second)) (Some Second) None)

unfoldable pub slice_read : List ℕ → Option Slice
slice_read r =
    then_read (cond (is_a slice_form r) (kind_read (field slice_form 1 r)) None) (λ (k : Kind).
    Some (record {
      job = field slice_form 0 r;
      kind = k;
      core = field slice_form 2 r;
      start = field slice_form 3 r;
      length = field slice_form 4 r;
    }))

unfoldable pub plan_read : (jobs slices : ℕ) → List (List ℕ) → Option (Answer Plan)
plan_read jobs slices rs =
    cond (eqb (length rs) (jobs + slices))
    (then_read (all_read (shares_read 0 (take jobs rs))) (λ (ss : List Ticks). then_read (all_read (map slice_read (drop jobs rs)))
    (λ (rows : List Slice). Some (given (record { shares = ss; slices = rows })))))
    None

-- The counts stand before a plan. Nothing stands after a refusal.
unfoldable pub records_say : List (List ℕ) → Option (Answer Plan)
records_say [] = None
records_say (r ∷ rs) =
    cond (is_a counts_form r) (plan_read (field counts_form 0 r) (field counts_form 1 r) rs)
    (cond (is_a refusal_form r && eqb (length rs) 0) (Some (refused (field refusal_form 0 r) (field refusal_form 1 r))) None)

unfoldable pub said_of : List ℕ → Option (Answer Plan)
said_of text = then_read (all_read (map bytes_of (lines_of text))) records_say

abbrev pub room_said : Option (Answer Plan) → Bool
room_said None = false
room_said (Some x) = room_refusal x
