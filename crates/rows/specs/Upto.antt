-- Columns of numbers by their places. A column is read by `at`, which has 0 past a column's end; no call looks there.
--   upto   the list of a function's values at 0 to n - 1
--   at     what a column has at a place
-- Assumes nothing.
use Rattle.std.specs.Prelude.{List, [], ◌∷◌, ℕ, zero, suc, get_or}

abbrev pub upto : {A : Type 0} → ℕ → (ℕ → A) → List A
upto zero f = []
upto (suc n) f = f 0 ∷ upto n (λ i. f (suc i))

abbrev pub at : List ℕ → ℕ → ℕ
at xs i = get_or xs i 0
