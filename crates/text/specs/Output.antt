-- The output: the lines of a plan, or of a refusal. docs/SPEC.md, "The text".
--   count_record      the record of the counts of jobs and slices
--   share_record      the record of a job's share
--   slice_record      the record of a slice
--   share_records     the records of shares, of jobs numbered one after the other
--   plan_records      the records of a plan: the counts, each share in order, each slice in the table's order
--   refused_records   the record of a refusal, and no other
--   plan_text         a plan's records as bytes of a text
--   refused_text      a refusal's
--   writes            what a writer answers: the count of the bytes, or the refusal of a lent text that is too short
--   written           a lent text with bytes at its front; where it is too short for them it stays
--   Writes            what a writer promises: its answer, and every byte of the lent text
--   answer_most       the most bytes that an answer has
-- Assumes nothing.
use Rattle.std.specs.Prelude.{cond, List, [], ◌∷◌, ◌++◌, map, ◌≡◌, ℕ, ◌+◌, ◌*◌, ltb, length, Result}
use Rattle.rows.specs.Lists.{front}
use Rattle.model.specs.Limits.{jobs_most, slices_most}
use Rattle.model.specs.Packed.{kind_number}
use Rattle.model.specs.Refusal.{Answer, given, says, says_refusal}
use Rattle.model.specs.Split.{Ticks}
use Rattle.model.specs.declared.Refusal.{Refusal}
use Rattle.model.specs.declared.Slice.{Slice}
use Rattle.text.specs.Hex.{text_of}
use Rattle.text.specs.Records.{counts_form, share_form, slice_form, refusal_form, line_size, record_of}

abbrev pub count_record : (jobs slices : ℕ) → List ℕ
count_record jobs slices = record_of counts_form (jobs ∷ slices ∷ [])

abbrev pub share_record : ℕ → Ticks → List ℕ
share_record job s = record_of share_form (job ∷ s.first ∷ s.second ∷ [])

abbrev pub slice_record : Slice → List ℕ
slice_record s = record_of slice_form (s.job ∷ kind_number s.kind ∷ s.core ∷ s.start ∷ s.length ∷ [])

unfoldable pub share_records : ℕ → List Ticks → List (List ℕ)
share_records i [] = []
share_records i (s ∷ ss) = share_record i s ∷ share_records (i + 1) ss

abbrev pub plan_records : List Ticks → List Slice → List (List ℕ)
plan_records ss rows = count_record (length ss) (length rows) ∷ (share_records 0 ss ++ map slice_record rows)

abbrev pub refused_records : (number place : ℕ) → List (List ℕ)
refused_records number place = record_of refusal_form (number ∷ place ∷ []) ∷ []

abbrev pub plan_text : List Ticks → List Slice → List ℕ
plan_text ss rows = text_of (plan_records ss rows)

abbrev pub refused_text : (number place : ℕ) → List ℕ
refused_text number place = text_of (refused_records number place)

-- Where a text is shorter than what is to be written no byte changes, and `short` is the refusal that tells so. Bytes past the lines stay.
abbrev pub writes : (short : Refusal) (text new : List ℕ) → Answer ℕ
writes short text new = cond (ltb (length text) (length new)) (says_refusal short) (given (length new))

abbrev pub written : (text new : List ℕ) → List ℕ
written text new = cond (ltb (length text) (length new)) text (front new text)

-- A lent text before and after the lines were written.
pub record Writes (short : Refusal) (before after lines : List ℕ) (r : Result ℕ Refusal) : Type 0 where
  pub says : says r ≡ writes short before lines
  pub text : after ≡ written before lines

-- The counts' line, a line for each job and a line for each slice, where there are as many as can be.
abbrev pub answer_most : ℕ
answer_most = line_size counts_form + line_size share_form * jobs_most + line_size slice_form * slices_most
