-- Internal: no public promise cites this. What is made of a call of read or write.
--   Unmoved   a call that gave an error is to be made again, of which a spare one is used up, or it failed by that error: never the end
--   Said      the bytes moved, which are none at the end, and what is Unmoved at an error
-- Assumes nothing.
use Rattle.std.specs.Prelude.{◌≡◌, ℕ, ◌<◌, Option, None, Some, Result, Ok, Err}
use Rattle.std.specs.declared.io.Error.{Error}

-- Which of the two a call with an error is, the error's kind says.
abbrev pub Unmoved : Error → ℕ → Result (Option ℕ) Error → Type 0
Unmoved e spare (Ok (Some n)) = ⊥
Unmoved e spare (Ok None) = 0 < spare
Unmoved e spare (Err f) = f ≡ e

abbrev pub Said : Result ℕ Error → ℕ → Result (Option ℕ) Error → Type 0
Said (Ok n) spare r = r ≡ Ok (Some n)
Said (Err e) spare r = Unmoved e spare r
