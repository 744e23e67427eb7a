-- The input of the whole example of docs/SPEC.md, "The text", read by the definitions, and texts that are refused. Each is worked out by computation.
-- Assumes nothing.
use mathlib.Core.List.{List, [], ◌∷◌, map}
use mathlib.Core.Path.{◌≡◌, refl}
use Prim.Native.Nat.{ℕ}
use Rattle.model.specs.Refusal.{given, refused}
use Rattle.model.specs.declared.Job.{Job}
use Rattle.model.specs.declared.Job.TheVariants.{Both}
use Rattle.text.specs.Hex.{lines_of, nibble_of, pairs_of, bytes_of, digits_of, text_of, number_from}
use Rattle.reader.specs.Input.{job_in, entry_of, jobs_from, input_from, input_of}

abbrev B : ℕ → ℕ → Job
B a b = Both (record { 0 = a }) (record { 0 = b })

-- 01000a0101, 02000000000600000009, 02000000000600000008
abbrev asked : List (List ℕ)
asked = (1 ∷ 0 ∷ 10 ∷ 1 ∷ 1 ∷ []) ∷ (2 ∷ 0 ∷ 0 ∷ 0 ∷ 0 ∷ 6 ∷ 0 ∷ 0 ∷ 0 ∷ 9 ∷ []) ∷ (2 ∷ 0 ∷ 0 ∷ 0 ∷ 0 ∷ 6 ∷ 0 ∷ 0 ∷ 0 ∷ 8 ∷ []) ∷ []

pub read-example : input_of (text_of asked) ≡ given (record { board = record { window = 10; first = 1; second = 1 }; jobs = B 6 9 ∷ B 6 8 ∷ [] })
unfolding lines_of nibble_of pairs_of bytes_of digits_of text_of number_from job_in entry_of jobs_from input_from input_of
read-example = refl

-- Texts that are refused: none, a blank line, a job first, a board later, a digit too many, a carriage return.
pub refused-examples : map input_of
    ([] ∷ (10 ∷ []) ∷ text_of ((2 ∷ 0 ∷ 0 ∷ 0 ∷ 0 ∷ 6 ∷ 0 ∷ 0 ∷ 0 ∷ 9 ∷ []) ∷ []) ∷ text_of ((1 ∷ 0 ∷ 10 ∷ 1 ∷ 1 ∷ []) ∷ (1 ∷ 0 ∷ 10 ∷ 1 ∷ 1 ∷ []) ∷ [])
    ∷ (48 ∷ 49 ∷ 48 ∷ []) ∷ (48 ∷ 49 ∷ 13 ∷ 10 ∷ []) ∷ text_of ((16 ∷ []) ∷ []) ∷ [])
    ≡ refused 10 1 ∷ refused 8 1 ∷ refused 10 1 ∷ refused 10 2 ∷ refused 8 1 ∷ refused 8 1 ∷ refused 9 1 ∷ []
unfolding lines_of nibble_of pairs_of bytes_of digits_of text_of number_from job_in entry_of jobs_from input_from input_of
refused-examples = refl
