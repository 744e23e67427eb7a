-- Rows of a table of shares say the ticks that they were made of. Assumes nothing.
use mathlib.Core.Path.{◌≡◌, refl, ap}
use mathlib.Core.List.{List, [], ◌∷◌, map}
use Rattle.model.specs.ShareRow.{row_of, ticks_of_row}
use Rattle.model.specs.Split.{Ticks}

pub rows_back : (ts : List Ticks) → map ticks_of_row (map row_of ts) ≡ ts
rows_back [] = refl
rows_back (t ∷ ts) = ap (λ (l : List Ticks). t ∷ l) (rows_back ts)
