-- Which tables can be run: docs/SPEC.md, "The tick handler". A table is a column of numbers, a slice each (model's specs/Packed.antt).
--   is_row         whether a number is that of a slice: its second byte is a kind, and nothing stands above its seven bytes
--   is_inside      whether a slice has a length above 0, ends within the window, and is on a core that the board has
--   is_bad         whether a row is none that can be run: refusal 12
--   collides       whether two slices are on one core and share a tick
--   meets          whether row i collides with an earlier one: refusal 13
--   collision_of   the lowest such row, and the count of all where there is none
--   check_of       the checks in their order: a table that can be run, or a refusal by its number and its place
-- Assumes nothing.
use Rattle.std.specs.Prelude.{Bool, cond, not, ◌&&◌, ◌||◌, List, ℕ, ◌+◌, ◌/◌, ◌%◌, eqb, leb, ltb, length}
use Rattle.rows.specs.Lists.{lowest}
use Rattle.rows.specs.Upto.{upto, at}
use Rattle.model.specs.Board.{cores_of, same_kind}
use Rattle.model.specs.Packed.{slice_in, slices_in}
use Rattle.model.specs.Refusal.{Answer, given, refused}
use Rattle.model.specs.declared.Board.{Board}
use Rattle.model.specs.declared.Slice.{Slice}
use Rattle.legal.specs.Legal.{on_board}

-- What a number has beyond a slice would be lost when it is read as one, so it is refused.
unfoldable pub is_row : ℕ → Bool
is_row x = ltb x 72057594037927936 && (eqb (x / 256 % 256) 1 || eqb (x / 256 % 256) 2)

abbrev pub is_inside : Board → Slice → Bool
is_inside board s = ltb 0 s.length && (leb (s.start + s.length) board.window && ltb s.core (cores_of board s.kind))

abbrev pub is_bad : Board → ℕ → Bool
is_bad board x = not (is_row x && is_inside board (slice_in x))

-- Asked of slices with lengths above 0: each starts before the other ends.
abbrev pub collides : Slice → Slice → Bool
collides s t =
    same_kind s.kind t.kind && (eqb s.core t.core && (ltb s.start (t.start + t.length) && ltb t.start (s.start + s.length)))

abbrev pub meets : List ℕ → ℕ → Bool
meets xs i = ltb (lowest (collides (slice_in (at xs i))) (slices_in i xs)) i

-- Of all pairs that collide, the one whose later row is lowest decides.
unfoldable pub collision_of : List ℕ → ℕ
collision_of xs = lowest (meets xs) (upto (length xs) (λ i. i))

-- 1, 2, 12 over all rows, 13.
unfoldable pub check_of : Board → List ℕ → Answer (Unit {0})
check_of board xs =
    let bad : ℕ = lowest (is_bad board) xs in
    let later : ℕ = collision_of xs in
    on_board board
    (cond (ltb bad (length xs)) (refused 12 bad)
    (cond (ltb later (length xs)) (refused 13 later)
    (given tt)))
