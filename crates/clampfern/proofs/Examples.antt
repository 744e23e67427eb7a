-- The whole example of docs/SPEC.md, "The text", from the bytes of its text to what its answer says; and answers that are wrong in one place and say
-- nothing. Each is worked out by computation. Assumes nothing.
use mathlib.Core.List.{List, [], ◌∷◌, map}
use mathlib.Core.Path.{◌≡◌, refl}
use Prim.Native.Char.{code}
use Prim.Native.Nat.{ℕ}
use Prim.Native.String.{String}
use Prim.Native.String as S
use lib.ListN.{replicate}
use Rattle.std.specs.Prelude.{None, Some}
use Rattle.rows.specs.Lists.{lowest}
use Rattle.model.specs.Board.{room_of}
use Rattle.model.specs.Refusal.{given, refused}
use Rattle.model.specs.Split.{share}
use Rattle.model.specs.declared.Kind.{Kind}
use Rattle.model.specs.declared.Kind.TheVariants.{First, Second}
use Rattle.model.specs.declared.Slice.{Slice}
use Rattle.legal.specs.Legal.{on_board, legal_of}
use Rattle.split.specs.Home.{at_home, keep_of, give_of}
use Rattle.split.specs.Steps.{better, next_from, moved_of, step_of, steps_of}
use Rattle.split.specs.Shares.{settled, by_over}
use Rattle.slices.specs.Table.{chosen, pieces_of, cut_of, packed, table_of}
use Rattle.text.specs.Hex.{lines_of, nibble_of, pairs_of, bytes_of, digits_of, text_of, number_from}
use Rattle.text.specs.Output.{share_records}
use Rattle.reader.specs.Input.{job_in, entry_of, jobs_from, input_from, input_of}
use Rattle.clampfern.specs.Answer.{answer_text}
use Rattle.clampfern.specs.Said.{all_read, share_read, shares_read, slice_read, plan_read, records_say, said_of}

-- The bytes of a text as it is printed.
unfoldable pub bytes : String → List ℕ
bytes S.[] = []
bytes (S.◌∷◌ c s) = code c ∷ bytes s

abbrev slice : ℕ → Kind → ℕ → ℕ → ℕ → Slice
slice job kind core start length = record { job = job; kind = kind; core = core; start = start; length = length }

pub example-answered : answer_text (bytes "01000a0101\n02000000000600000009\n02000000000600000008\n")
    ≡ bytes "100203\n110000060000\n110100040003\n1201010000000004\n1200010000040006\n1201020000070003\n"
unfolding bytes lines_of nibble_of pairs_of bytes_of number_from job_in entry_of jobs_from input_from input_of lowest legal_of on_board at_home keep_of give_of better next_from moved_of room_of
    step_of steps_of settled by_over chosen pieces_of cut_of packed table_of digits_of text_of share_records
example-answered = refl

pub example-said : said_of (bytes "100203\n110000060000\n110100040003\n1201010000000004\n1200010000040006\n1201020000070003\n")
    ≡ Some (given (record {
      shares = share 6 0 ∷ share 4 3 ∷ [];
      slices = slice 1 First 0 0 4 ∷ slice 0 First 0 4 6 ∷ slice 1 Second 0 7 3 ∷ [];
    }))
unfolding bytes lines_of nibble_of pairs_of bytes_of number_from all_read share_read shares_read slice_read plan_read records_say said_of
example-said = refl

-- The least of each: no job, and a refusal; in capitals, and with no line feed at the end.
pub least-said : map (λ (s : String). said_of (bytes s)) ("100000\n" ∷ "1f0540\n" ∷ "1F0540" ∷ [])
    ≡ Some (given (record { shares = []; slices = [] })) ∷ Some (refused 5 64) ∷ Some (refused 5 64) ∷ []
unfolding bytes lines_of nibble_of pairs_of bytes_of number_from all_read share_read shares_read slice_read plan_read records_say said_of
least-said = refl

-- The example with one thing wrong, row by row, and what says nothing by itself.
abbrev wrong : List String
wrong =
    -- a count of jobs that is one less
    "100103\n110000060000\n110100040003\n1201010000000004\n1200010000040006\n1201020000070003\n"
    -- a count of slices that is one more
    ∷ "100204\n110000060000\n110100040003\n1201010000000004\n1200010000040006\n1201020000070003\n"
    -- a slice's line missing
    ∷ "100203\n110000060000\n110100040003\n1201010000000004\n1201020000070003\n"
    -- a line too many
    ∷ "100203\n110000060000\n110100040003\n1201010000000004\n1200010000040006\n1201020000070003\n1201020000070003\n"
    -- a share of the wrong job
    ∷ "100203\n110000060000\n110000040003\n1201010000000004\n1200010000040006\n1201020000070003\n"
    -- a slice on kind 3
    ∷ "100203\n110000060000\n110100040003\n1201010000000004\n1200010000040006\n1201030000070003\n"
    -- slices before shares
    ∷ "100203\n1201010000000004\n1200010000040006\n1201020000070003\n110000060000\n110100040003\n"
    -- a digit missing
    ∷ "100203\n110000060000\n110100040003\n1201010000000004\n1200010000040006\n120102000007003\n"
    -- a blank line at the end
    ∷ "100203\n110000060000\n110100040003\n1201010000000004\n1200010000040006\n1201020000070003\n\n"
    -- a line after a refusal
    ∷ "1f0600\n100203\n"
    -- a record of an input
    ∷ "01000a0101\n"
    -- no line
    ∷ ""
    ∷ []

pub nothing_said : map (λ (s : String). said_of (bytes s)) wrong ≡ replicate 12 None
unfolding bytes lines_of nibble_of pairs_of bytes_of number_from all_read share_read shares_read slice_read plan_read records_say said_of
nothing_said = refl
