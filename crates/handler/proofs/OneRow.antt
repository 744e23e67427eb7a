-- At most one row is there: in a table that passes its checks, no two rows are on one core at one tick. And a timetable passes, since its rows are
-- inside and no core runs two at once. Assumes nothing.
--   clear-once        of two rows that are clear of each other one at most is there
--   one-row           of the rows of a table that passes one at most is there
--   table-back        rows are read back from their numbers
--   table-checked     the numbers of the rows of a timetable pass
use mathlib.Core.Path.{◌≡◌, refl, sym, ap, ◌∙◌}
use mathlib.Core.Bool.{true}
use mathlib.Core.List.{List, [], ◌∷◌, map}
use Prim.Native.Nat.{ℕ, ◌<◌}
use native.Mathlib.Omega.{arith}
use lib.ListN.{length}
use Rattle.rows.specs.Lists.{All}
use Rattle.rows.specs.Upto.{at}
use Rattle.rows.proofs.Tells.{fact}
use Rattle.model.specs.Packed.{kind_number, pack_of, slice_in, slices_in}
use Rattle.model.specs.Refusal.{given}
use Rattle.model.specs.Split.{Ticks}
use Rattle.model.specs.Terms.{Narrow}
use Rattle.model.specs.Timetable.{Inside, Timetable}
use Rattle.model.specs.declared.Board.{Board}
use Rattle.model.specs.declared.Kind.{Kind}
use Rattle.model.specs.declared.Slice.{Slice}
use Rattle.model.proofs.Packed.{packed-back}
use Rattle.legal.proofs.CheckByCheck.{Passed}
use Rattle.handler.specs.Check.{check_of}
use Rattle.handler.specs.Running.{is_at}
use Rattle.handler.proofs.Judged.{clear_at, passes-exactly}
use Rattle.handler.proofs.Tests.{Good, Clear, at-tells}

kind-once : (k l : Kind) → kind_number k ≡ kind_number l → k ≡ l
kind-once k l e = grind arith

-- Of two rows that are clear of each other one at most is there.
pub clear-once : (tick kind core : ℕ) (s t : Slice) → Clear s t → is_at tick kind core s ≡ true → is_at tick kind core t ≡ true → ⊥
clear-once tick kind core s t clear here too =
    let h = fact (at-tells tick kind core s) here in
    let k = fact (at-tells tick kind core t) too in
    clear (kind-once s.kind t.kind (h.0 ∙ sym k.0), h.1.0 ∙ sym k.1.0) tick h.1.1 k.1.1

pub one-row : (board : Board) (xs : List ℕ) → check_of board xs ≡ given tt → (tick kind core i k : ℕ) → i < k → k < length xs
    → is_at tick kind core (slice_in (at xs i)) ≡ true → is_at tick kind core (slice_in (at xs k)) ≡ true → ⊥
one-row board xs passes tick kind core i k l m =
    clear-once tick kind core (slice_in (at xs i)) (slice_in (at xs k))
    (clear_at xs ((passes-exactly xs board).0 passes).2 i k l m)

-- ---- a timetable passes
pub table-back : (rows : List Slice) → All Narrow rows → slices_in (length (map pack_of rows)) (map pack_of rows) ≡ rows
table-back [] narrow = refl
table-back (s ∷ rows) narrow = rw (packed-back s narrow.0, table-back rows narrow.1)

module _ (board : Board) where
  packed-good : (jobs : ℕ) (rows : List Slice) → All (Inside board jobs) rows → All Narrow rows → All (Good board) (map pack_of rows)
  packed-good jobs [] inside narrow = tt
  packed-good jobs (s ∷ rows) inside narrow =
      let back = packed-back s narrow.0 in
      ((ap pack_of back, rw back (inside.0.some, (inside.0.ends, inside.0.core))), packed-good jobs rows inside.1 narrow.1)

  pub table-checked : (ss : List Ticks) (rows : List Slice) → Passed board → Timetable board ss rows → All Narrow rows
      → check_of board (map pack_of rows) ≡ given tt
  table-checked ss rows passed table narrow =
      (passes-exactly (map pack_of rows) board).1
      (passed, packed-good (length ss) rows table.inside narrow, rw (table-back rows narrow) table.cores)
