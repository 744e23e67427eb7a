-- Both sides of the lines that the tick handler's definitions draw, as model/proofs/BothSides.antt has them for the model: what each answers exactly
-- at a limit, and one past it there and nowhere else. The window is 10, with 2 cores of the first kind and 3 of the second. The lines, in this order:
--   is_row         the kinds 0 to 3, and the byte above a slice's seven
--   is_inside      lengths 0 and 1, ends at W and W + 1, cores at the count; is_bad: all of it
--   collides       a slice that ends where the other starts, one shared tick, another kind, another core, both ways round
--   meets          earlier rows alone; collision_of: of several pairs the lowest later row, and none
--   check_of       its order: 1, 2, 12, 13
--   cores_in       the kinds 0 to 3; is_beyond: ticks W − 1 and W, kinds, cores at the count
--   is_at          the first tick, the last, and those beside them; kind and core
--   running_in     the job of the row that is there, and none
--   asked_of       its order: the checks of the table, then 11
--   next_of        W − 1 to 0, W refused, windows 0, 1, 65,535 and 65,536; left_at, answered: a position that is refused stays
-- Assumes nothing.
use mathlib.Core.Bool.{true, false}
use mathlib.Core.List.{List, [], ◌∷◌, map}
use mathlib.Core.Path.{◌≡◌, refl}
use Prim.Native.Nat.{ℕ, ◌+◌, ◌*◌}
use Rattle.std.specs.Prelude.{None, Some}
use Rattle.rows.specs.Lists.{lowest}
use Rattle.model.specs.Packed.{pack_of, slice_in}
use Rattle.model.specs.Refusal.{given, refused}
use Rattle.model.specs.declared.Kind.TheVariants.{First, Second}
use Rattle.model.specs.declared.Board.{Board}
use Rattle.model.specs.declared.Slice.{Slice}
use Rattle.model.proofs.BothSides.{board, row}
use Rattle.legal.specs.Legal.{on_board}
use Rattle.handler.specs.Check.{is_row, is_inside, is_bad, collides, meets, collision_of, check_of}
use Rattle.handler.specs.Running.{cores_in, is_beyond, is_at, running_in, asked_of}
use Rattle.handler.specs.Position.{next_of, left_at, answered}

abbrev small : Board
small = board 2 3

-- ==== is_row
pub row-kinds : map (λ (kind : ℕ). is_row (256 * kind)) (0 ∷ 1 ∷ 2 ∷ 3 ∷ []) ≡ false ∷ true ∷ true ∷ false ∷ []
unfolding is_row
row-kinds = refl

pub row-bytes : map (λ (above : ℕ). is_row (pack_of (row 255 Second 255 65535 65535) + 72057594037927936 * above)) (0 ∷ 1 ∷ []) ≡ true ∷ false ∷ []
unfolding is_row pack_of
row-bytes = refl

pub row-bytes-least : map (λ (above : ℕ). is_row (256 + 72057594037927936 * above)) (0 ∷ 1 ∷ []) ≡ true ∷ false ∷ []
unfolding is_row
row-bytes-least = refl

-- ==== is_inside and is_bad
pub inside-length : map (λ (n : ℕ). is_inside small (row 0 First 0 9 n)) (0 ∷ 1 ∷ 2 ∷ []) ≡ false ∷ true ∷ false ∷ []
inside-length = refl

pub inside-end : map (λ (start : ℕ). is_inside small (row 0 First 0 start 10)) (0 ∷ 1 ∷ []) ≡ true ∷ false ∷ []
inside-end = refl

pub inside-cores-first : map (λ (core : ℕ). is_inside small (row 0 First core 0 10)) (1 ∷ 2 ∷ []) ≡ true ∷ false ∷ []
inside-cores-first = refl

pub inside-cores-second : map (λ (core : ℕ). is_inside small (row 0 Second core 0 10)) (2 ∷ 3 ∷ []) ≡ true ∷ false ∷ []
inside-cores-second = refl

-- The slice of the third number is inside: the number has a kind of 3.
pub bad-rows : map (is_bad small) (pack_of (row 0 First 0 0 10) ∷ pack_of (row 0 First 0 1 10) ∷ (pack_of (row 0 First 0 0 10) + 512) ∷ [])
    ≡ false ∷ true ∷ true ∷ []
unfolding is_row pack_of slice_in
bad-rows = refl

-- ==== collides: held against ticks 4 to 6 on core 1 of the first kind
abbrev held : Slice
held = row 0 First 1 4 3

abbrev others : List Slice
others = row 1 First 1 0 4 ∷ row 1 First 1 0 5 ∷ row 1 First 1 6 2 ∷ row 1 First 1 7 2 ∷ row 1 Second 1 4 3 ∷ row 1 First 0 4 3 ∷ []

pub collides-with : map (collides held) others ≡ false ∷ true ∷ true ∷ false ∷ false ∷ false ∷ []
collides-with = refl

pub collides-back : map (λ (other : Slice). collides other held) others ≡ false ∷ true ∷ true ∷ false ∷ false ∷ false ∷ []
collides-back = refl

-- ==== meets and collision_of
abbrev table : List Slice → List ℕ
table = map pack_of

-- Rows 1 and 2 share tick 7, rows 0 and 3 share tick 3.
abbrev two-pairs : List Slice
two-pairs = row 0 First 0 0 4 ∷ row 1 First 0 6 2 ∷ row 2 First 0 7 2 ∷ row 3 First 0 3 2 ∷ []

abbrev no-pair : List Slice
no-pair = row 0 First 0 0 4 ∷ row 1 First 0 4 2 ∷ row 2 First 1 4 2 ∷ row 3 Second 0 4 2 ∷ []

pub meets-earlier : map (meets (table two-pairs)) (0 ∷ 1 ∷ 2 ∷ 3 ∷ []) ≡ false ∷ false ∷ true ∷ true ∷ []
unfolding lowest pack_of slice_in
meets-earlier = refl

pub collision-later : collision_of (table two-pairs) ≡ 2
unfolding lowest pack_of slice_in collision_of
collision-later = refl

pub collision-none : collision_of (table no-pair) ≡ 4
unfolding lowest pack_of slice_in collision_of
collision-none = refl

-- ==== check_of
abbrev sized : (window first second : ℕ) → Board
sized window first second = record { window = window; first = first; second = second }

pub checks-pass : check_of small (table no-pair) ∷ check_of small [] ∷ [] ≡ given tt ∷ given tt ∷ []
unfolding lowest pack_of slice_in is_row collision_of check_of on_board
checks-pass = refl

-- Each table fails every check that comes after the one that it is refused by.
abbrev bad_last : List Slice
bad_last = row 0 First 0 0 4 ∷ row 1 First 0 0 4 ∷ row 2 First 0 4 0 ∷ []

pub checks-order : check_of (sized 0 0 3) (table bad_last) ∷ check_of (sized 10 0 3) (table bad_last) ∷ check_of small (table bad_last)
    ∷ check_of small (table two-pairs) ∷ []
    ≡ refused 1 0 ∷ refused 2 0 ∷ refused 12 2 ∷ refused 13 2 ∷ []
unfolding lowest pack_of slice_in is_row collision_of check_of on_board
checks-order = refl

-- ==== cores_in and is_beyond
pub cores-in : map (cores_in small) (0 ∷ 1 ∷ 2 ∷ 3 ∷ []) ≡ 0 ∷ 2 ∷ 3 ∷ 0 ∷ []
cores-in = refl

pub beyond-tick : map (λ (tick : ℕ). is_beyond small tick 1 0) (0 ∷ 9 ∷ 10 ∷ []) ≡ false ∷ false ∷ true ∷ []
beyond-tick = refl

pub beyond-kind : map (λ (kind : ℕ). is_beyond small 0 kind 0) (0 ∷ 1 ∷ 2 ∷ 3 ∷ []) ≡ true ∷ false ∷ false ∷ true ∷ []
beyond-kind = refl

pub beyond-core-first : map (is_beyond small 0 1) (1 ∷ 2 ∷ []) ≡ false ∷ true ∷ []
beyond-core-first = refl

pub beyond-core-second : map (is_beyond small 0 2) (2 ∷ 3 ∷ []) ≡ false ∷ true ∷ []
beyond-core-second = refl

-- ==== is_at: ticks 4 to 6 on core 1 of the first kind
pub at-ticks : map (λ (tick : ℕ). is_at tick 1 1 held) (3 ∷ 4 ∷ 6 ∷ 7 ∷ []) ≡ false ∷ true ∷ true ∷ false ∷ []
at-ticks = refl

pub at-kinds : map (λ (kind : ℕ). is_at 4 kind 1 held) (0 ∷ 1 ∷ 2 ∷ []) ≡ false ∷ true ∷ false ∷ []
at-kinds = refl

pub at_second : is_at 4 2 1 (row 0 Second 1 4 3) ≡ true
at_second = refl

pub at-cores : map (λ (core : ℕ). is_at 4 1 core held) (0 ∷ 1 ∷ 2 ∷ []) ≡ false ∷ true ∷ false ∷ []
at-cores = refl

-- ==== running_in and asked_of
pub running-first : map (λ (tick : ℕ). running_in tick 1 0 no-pair) (0 ∷ 3 ∷ 4 ∷ 5 ∷ 6 ∷ []) ≡ Some 0 ∷ Some 0 ∷ Some 1 ∷ Some 1 ∷ None ∷ []
unfolding running_in
running-first = refl

pub running-others : running_in 4 1 1 no-pair ∷ running_in 4 2 0 no-pair ∷ running_in 4 2 1 no-pair ∷ [] ≡ Some 2 ∷ Some 3 ∷ None ∷ []
unfolding running_in
running-others = refl

pub asked-ticks : map (λ (tick : ℕ). asked_of small (table no-pair) tick 1 0) (5 ∷ 9 ∷ 10 ∷ []) ≡ given (Some 1) ∷ given None ∷ refused 11 0 ∷ []
unfolding lowest pack_of slice_in is_row collision_of check_of on_board running_in
asked-ticks = refl

pub asked-order : map (λ (rows : List Slice). asked_of small (table rows) 10 1 0) (two-pairs ∷ bad_last ∷ no-pair ∷ [])
    ≡ refused 13 2 ∷ refused 12 2 ∷ refused 11 0 ∷ []
unfolding lowest pack_of slice_in is_row collision_of check_of on_board running_in
asked-order = refl

-- ==== next_of, and where a position is left
pub next-ticks : map (next_of 10) (0 ∷ 8 ∷ 9 ∷ 10 ∷ 11 ∷ []) ≡ given 1 ∷ given 9 ∷ given 0 ∷ refused 11 0 ∷ refused 11 0 ∷ []
unfolding next_of
next-ticks = refl

pub next-windows : map (λ (window : ℕ). next_of window 0) (0 ∷ 1 ∷ 2 ∷ 65535 ∷ 65536 ∷ [])
    ≡ refused 1 0 ∷ given 0 ∷ given 1 ∷ given 1 ∷ refused 1 0 ∷ []
unfolding next_of
next-windows = refl

pub next-longest : map (next_of 65535) (65533 ∷ 65534 ∷ 65535 ∷ []) ≡ given 65534 ∷ given 0 ∷ refused 11 0 ∷ []
unfolding next_of
next-longest = refl

-- A refusal of the window comes before one of the position.
pub next-order : next_of 65536 65536 ≡ refused 1 0
unfolding next_of
next-order = refl

pub left-at : map (left_at 7) (given 8 ∷ given 0 ∷ refused 11 0 ∷ []) ≡ 8 ∷ 0 ∷ 7 ∷ []
left-at = refl

pub answered-as : map answered (given 8 ∷ refused 11 0 ∷ []) ≡ given tt ∷ refused 11 0 ∷ []
answered-as = refl
