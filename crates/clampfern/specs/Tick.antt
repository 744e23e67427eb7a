-- The numbers that C gets of the tick handler: docs/SPEC.md, "The tick handler".
--   idle_code      the number for no job: one above the greatest number of a job
--   refusal_base   what is added to the number of a refusal
--   code_of        the number of an answer: the job's, idle_code, or refusal_base plus the refusal's
--   count_in       the count of an answer, and 0 where it is a refusal
--   packs_for      what packing lines answers: their refusal, or what packing their table answers
--   bytes_for      the packed bytes of their table, and none where the lines are refused
--   PackedBytes    packing for C: the count, 0 where it is refused, and every lent byte
-- Assumes nothing.
use Rattle.std.specs.Prelude.{List, [], ◌≡◌, ℕ, ◌+◌, length, Option, None, Some}
use Rattle.model.specs.Packed.{slices_in}
use Rattle.model.specs.Refusal.{Answer, given, refused}
use Rattle.packed.specs.Packed.{packed_of, packs, laid}
use Rattle.kernel.specs.Handed.{Handed, handed_of, column_of}

abbrev pub idle_code : ℕ
idle_code = 256

abbrev pub refusal_base : ℕ
refusal_base = 512

-- The place of a refusal is not told.
abbrev pub code_of : Answer (Option ℕ) → ℕ
code_of (given None) = idle_code
code_of (given (Some job)) = job
code_of (refused number place) = refusal_base + number

abbrev pub count_in : Answer ℕ → ℕ
count_in (given n) = n
count_in (refused number place) = 0

abbrev pub packs_for : Answer Handed → List ℕ → Answer ℕ
packs_for (given h) before = packs h.board (column_of h) before
packs_for (refused number place) before = refused number place

abbrev pub bytes_for : Answer Handed → List ℕ
bytes_for (given h) = packed_of h.board (slices_in (length (column_of h)) (column_of h))
bytes_for (refused number place) = []

-- Packed bytes are some, so a count of 0 is a refusal and nothing else (proofs/Ticks.antt). Bytes past the count stay.
pub record PackedBytes (lines before after : List ℕ) (r : ℕ) : Type 0 where
  pub count : r ≡ count_in (packs_for (handed_of lines) before)
  pub bytes : after ≡ laid (packs_for (handed_of lines) before) (bytes_for (handed_of lines)) before
