-- Both sides of each line that this crate's definitions draw, worked out on a window of 300 ticks and one core of each kind:
--   packed_of      every byte, of numbers of two bytes the high one first; packed_most
--   is_packed      a byte too few and one too many; the first byte of the board, of the first row and of the last; kinds 0 to 3; no row, no byte
--   packed_asked   the first and the last tick of a row, and those around them; the first of two rows; 9 before 11; the window's last tick, its end
--   packs, laid    a table's refusal before that of too few bytes; just enough bytes, and one less; bytes past the count; no change by a refusal
-- It stands first, so that a definition that is made weaker is refused at an example. Assumes nothing.
use mathlib.Core.List.{List, [], ◌∷◌, ◌++◌}
use mathlib.Core.Path.{◌≡◌, refl}
use Prim.Native.Nat.{ℕ}
use lib.ListN.{replicate}
use Rattle.std.specs.Prelude.{None, Some}
use Rattle.rows.specs.Lists.{lowest}
use Rattle.model.specs.Packed.{slice_in, slices_in}
use Rattle.model.specs.Refusal.{given, refused}
use Rattle.model.specs.declared.Board.{Board}
use Rattle.model.specs.declared.Kind.TheVariants.{First, Second}
use Rattle.model.proofs.BothSides.{row}
use Rattle.text.specs.Hex.{number_from}
use Rattle.legal.specs.Legal.{on_board}
use Rattle.handler.specs.Check.{is_row, collision_of, check_of}
use Rattle.handler.specs.Running.{running_in}
use Rattle.packed.specs.Packed.{packed_of, packed_most, is_packed, packed_asked, packs, laid}

abbrev here : Board
here = record { window = 300; first = 1; second = 1 }

-- The board's record, and a row's of job 3 on the first kind from tick 258 for 3 ticks.
abbrev head : List ℕ
head = 1 ∷ 1 ∷ 44 ∷ 1 ∷ 1 ∷ []

abbrev row_of : (tag job kind : ℕ) → List ℕ
row_of tag job kind = tag ∷ job ∷ kind ∷ 0 ∷ 1 ∷ 2 ∷ 0 ∷ 3 ∷ []

abbrev one : List ℕ
one = head ++ row_of 18 3 1

-- ==== packed_of
pub packed-exact : packed_of here (row 3 First 0 258 3 ∷ []) ≡ one
packed-exact = refl

pub packed-second : packed_of here (row 3 First 0 258 3 ∷ row 4 Second 0 258 3 ∷ []) ≡ one ++ row_of 18 4 2
packed-second = refl

pub packed-most : packed_most ≡ 2045
packed-most = refl

-- ==== is_packed, by what is answered
abbrev Refuses : List ℕ → Type 0
Refuses bytes = packed_asked bytes 258 1 0 ≡ refused 9 0

pub form-none-not : Refuses []
unfolding is_packed lowest number_from running_in
form-none-not = refl

pub form-board : packed_asked head 258 1 0 ≡ given None
unfolding is_packed lowest number_from running_in
form-board = refl

pub form-short-not : Refuses (head ++ (18 ∷ 3 ∷ 1 ∷ 0 ∷ 1 ∷ 2 ∷ 0 ∷ []))
unfolding is_packed lowest number_from running_in
form-short-not = refl

pub form-short-board-not : Refuses (1 ∷ 1 ∷ 44 ∷ 1 ∷ [])
unfolding is_packed lowest number_from running_in
form-short-board-not = refl

pub form-long-not : Refuses (one ++ (0 ∷ []))
unfolding is_packed lowest number_from running_in
form-long-not = refl

pub form-tag-not : Refuses (2 ∷ 1 ∷ 44 ∷ 1 ∷ 1 ∷ row_of 18 3 1)
unfolding is_packed lowest number_from running_in
form-tag-not = refl

pub form-first-row-not : Refuses (head ++ row_of 17 3 1 ++ row_of 18 4 2)
unfolding is_packed lowest number_from running_in
form-first-row-not = refl

pub form-last-row-not : Refuses (one ++ row_of 17 4 2)
unfolding is_packed lowest number_from running_in
form-last-row-not = refl

pub form-kind-none-not : Refuses (one ++ row_of 18 4 0)
unfolding is_packed lowest number_from running_in
form-kind-none-not = refl

pub form-kind-three-not : Refuses (one ++ row_of 18 4 3)
unfolding is_packed lowest number_from running_in
form-kind-three-not = refl

-- ==== packed_asked
pub asked-first-tick : packed_asked one 258 1 0 ≡ given (Some 3)
unfolding is_packed lowest number_from running_in
asked-first-tick = refl

pub asked-before : packed_asked one 257 1 0 ≡ given None
unfolding is_packed lowest number_from running_in
asked-before = refl

pub asked-last-tick : packed_asked one 260 1 0 ≡ given (Some 3)
unfolding is_packed lowest number_from running_in
asked-last-tick = refl

pub asked-end : packed_asked one 261 1 0 ≡ given None
unfolding is_packed lowest number_from running_in
asked-end = refl

pub asked-other-kind : packed_asked one 258 2 0 ≡ given None
unfolding is_packed lowest number_from running_in
asked-other-kind = refl

pub asked-second-kind : packed_asked (one ++ row_of 18 4 2) 258 2 0 ≡ given (Some 4)
unfolding is_packed lowest number_from running_in
asked-second-kind = refl

-- no table that was checked has two rows there
pub asked-first-row : packed_asked (one ++ row_of 18 4 1) 258 1 0 ≡ given (Some 3)
unfolding is_packed lowest number_from running_in
asked-first-row = refl

pub asked-window : packed_asked one 299 1 0 ≡ given None
unfolding is_packed lowest number_from running_in
asked-window = refl

pub asked-window-not : packed_asked one 300 1 0 ≡ refused 11 0
unfolding is_packed lowest number_from running_in
asked-window-not = refl

pub asked-kind-not : packed_asked one 258 3 0 ≡ refused 11 0
unfolding is_packed lowest number_from running_in
asked-kind-not = refl

pub asked-core-not : packed_asked one 258 1 1 ≡ refused 11 0
unfolding is_packed lowest number_from running_in
asked-core-not = refl

pub asked-form-first : packed_asked (one ++ (0 ∷ [])) 300 1 0 ≡ refused 9 0
unfolding is_packed lowest number_from running_in
asked-form-first = refl

-- ==== packs and laid: the same row as a number, and one that has the length 0
abbrev table : List ℕ
table = 3302863405315 ∷ []

pub packs-enough : packs here table (replicate 13 7) ≡ given 13
unfolding check_of on_board is_row collision_of lowest slice_in
packs-enough = refl

pub packs-short-not : packs here table (replicate 12 7) ≡ refused 7 0
unfolding check_of on_board is_row collision_of lowest slice_in
packs-short-not = refl

pub packs-table-first : packs here (4328521987 ∷ []) [] ≡ refused 12 0
unfolding check_of on_board is_row collision_of lowest slice_in
packs-table-first = refl

pub laid-behind : laid (packs here table (replicate 15 7)) (packed_of here (slices_in 1 table)) (replicate 15 7) ≡ one ++ (7 ∷ 7 ∷ [])
unfolding check_of on_board is_row collision_of lowest slice_in
laid-behind = refl

pub laid-refused : laid (packs here table (replicate 12 7)) (packed_of here (slices_in 1 table)) (replicate 12 7) ≡ replicate 12 7
unfolding check_of on_board is_row collision_of lowest slice_in
laid-refused = refl
