-- What was packed is asked as the table is. The one idea: the packed form's parts are cut where its records end, and a number in bytes is the number
-- that they spell, so that the board and the rows are read back.
--   packed-size     how many bytes a board and rows take
--   packed-fits     at most packed_most, with as many rows as a byte can count
--   packed-back     on the bytes of a board and rows the answer is by that board and those rows
--   pack-then-ask   on the bytes of a table that can be run the answer is the handler's on the table, for every tick, kind and core
--   packs-then-ask  the same of what packing promises: of the bytes that it counts
-- Assumes nothing.
use mathlib.Core.Bool.{Bool, true, false, cond, not, ◌||◌}
use mathlib.Core.List.{List, [], ◌∷◌}
use mathlib.Core.Path.{◌≡◌, refl, sym, ap, ◌∙◌}
use Prim.Native.Nat.{ℕ, zero, suc, ◌+◌, ◌-◌, ◌*◌, ◌%◌, ◌≤◌, ◌<◌}
use native.Mathlib.Omega.{arith}
use borrow.Author.Tests.{eq-eqb}
use lib.Dec.{eqb, ltb}
use lib.ListN.{length, take, drop, get_or}
use lib.Seq.{drop-drop, take-append_seam, ext_get_or}
use Rattle.std.specs.Prelude.{Option, Ok}
use Rattle.rows.specs.Lists.{lowest}
use Rattle.rows.specs.Upto.{upto}
use Rattle.rows.proofs.Lowest.{none-lowest}
use Rattle.rows.proofs.Never.{never}
use Rattle.rows.proofs.Upto.{upto-length, upto-at, upto_all}
use Rattle.model.specs.Packed.{kind_number, kind_of, slices_in}
use Rattle.model.specs.Refusal.{Answer, given, refused, and_then}
use Rattle.model.specs.declared.Board.{Board}
use Rattle.model.specs.declared.Kind.{Kind}
use Rattle.model.specs.declared.Kind.TheVariants.{First, Second}
use Rattle.model.specs.declared.Slice.{Slice}
use Rattle.text.specs.Hex.{number_from, number_in}
use Rattle.text.specs.Output.{slice_record}
use Rattle.text.specs.Records.{board_form, slice_form, size_of, board_in}
use Rattle.text.proofs.RoundTrip.{in_bytes-back}
use Rattle.handler.specs.Check.{check_of}
use Rattle.handler.specs.Running.{is_beyond, running_in, asked_of}
use Rattle.packed.specs.Packed.{records_of, packed_of, packed_most, row_bytes, is_slice, count_in, is_packed, slice_of, rows_in, packed_asked}
use Rattle.packed.specs.Packed.{laid, Packs}

-- ---- a record is read back
kind-back : (k : Kind)
    → ((eqb (number_in (kind_number k ∷ [])) 1 || eqb (number_in (kind_number k ∷ [])) 2) ≡ true) × (kind_of (number_in (kind_number k ∷ [])) ≡ k)
unfolding number_from
kind-back First = (refl, refl)
kind-back Second = (refl, refl)

slice_back : (s : Slice) → (is_slice (slice_record s) ≡ true) × (slice_of (slice_record s) ≡ s)
slice_back s = (
  (kind-back s.kind).0,
  rw (in_bytes-back 0 s.job, (kind-back s.kind).1, in_bytes-back 0 s.core, in_bytes-back 1 s.start, in_bytes-back 1 s.length),
)

records-at : (rows : List Slice) (d : Slice) (i : ℕ) → i < length rows → take 8 (drop (8 * i) (records_of rows)) ≡ slice_record (get_or rows i d)
records-at [] d i there = absurd (omega arith)
records-at (s ∷ rows) d zero there = refl
records-at (s ∷ rows) d (suc i) there =
    let next : 8 * suc i ≡ 8 + 8 * i = omega arith in
    rw (next, ← drop-drop (8 * i) 8 (records_of (s ∷ rows))) (records-at rows d i (omega arith))

slices-are : (bytes : List ℕ) → ((i : ℕ) → i < count_in bytes → is_slice (row_bytes bytes i) ≡ true)
    → eqb (lowest (λ (i : ℕ). not (is_slice (row_bytes bytes i))) (upto (count_in bytes) (λ i. i))) (count_in bytes) ≡ true
slices-are bytes each =
    let n = count_in bytes in
    let none = upto_all (λ (i : ℕ). not (is_slice (row_bytes bytes i)) ≡ false) n (λ i. i) (λ i l. rw (each i l)) in
    eq-eqb _ _ (none-lowest _ (upto n (λ i. i)) none ∙ upto-length n (λ i. i))

-- ---- the bytes of a board and rows
module _ (board : Board) (rows : List Slice) where
  pub packed-size : length (packed_of board rows) ≡ size_of board_form + size_of slice_form * length rows
  packed-size = omega (arith, go rows)
    where
      go : (rs : List Slice) → length (records_of rs) ≡ 8 * length rs
      go [] = refl
      go (s ∷ rs) = omega (arith, go rs)

  pub packed-fits : length rows ≤ 255 → length (packed_of board rows) ≤ packed_most
  packed-fits few = omega (arith, packed-size)

  abbrev bytes : List ℕ
  bytes = packed_of board rows

  count-back : count_in bytes ≡ length rows
  count-back = omega (arith, packed-size)

  row_back : (d : Slice) (i : ℕ) → i < count_in bytes → row_bytes bytes i ≡ slice_record (get_or rows i d)
  row_back d i there = ap (take 8) (sym (drop-drop (8 * i) 5 bytes)) ∙ records-at rows d i (omega (arith, count-back))

  rows_back : rows_in bytes ≡ rows
  rows_back =
      let d : Slice = slice_of [] in
      let f : ℕ → Slice = λ k. slice_of (row_bytes bytes k) in
      let long = upto-length (count_in bytes) f in
      ext_get_or d (rows_in bytes) rows (long ∙ count-back)
      (λ i l. upto-at (count_in bytes) f d i (omega arith) ∙ ap slice_of (row_back d i (omega arith)) ∙ (slice_back (get_or rows i d)).1)

  board-back : board_in (take (size_of board_form) bytes) ≡ board
  board-back = rw (in_bytes-back 1 board.window, in_bytes-back 0 board.first, in_bytes-back 0 board.second)

  is-packed : is_packed bytes ≡ true
  unfolding is_packed
  is-packed =
      rw (
        eq-eqb ((length bytes - 5) % 8) 0 (omega (arith, packed-size)),
        slices-are bytes (λ i l. ap is_slice (row_back (slice_of []) i l) ∙ (slice_back (get_or rows i (slice_of []))).0),
      )

  module _ (tick kind core : ℕ) where
    abbrev by : Board → List Slice → Answer (Option ℕ)
    by b rs = cond (is_beyond b tick kind core) (refused 11 0) (given (running_in tick kind core rs))

    pub packed-back : packed_asked bytes tick kind core
        ≡ cond (is_beyond board tick kind core) (refused 11 0) (given (running_in tick kind core rows))
    packed-back = rw is-packed (ap (λ (b : Board). by b (rows_in bytes)) board-back ∙ ap (λ (rs : List Slice). by board rs) rows_back)

-- ---- of a table that can be run
module _ (board : Board) (xs : List ℕ) where
  abbrev rows : List Slice
  rows = slices_in (length xs) xs

  abbrev new : List ℕ
  new = packed_of board rows

  abbrev then : Bool → Answer ℕ
  then t = cond t (refused 7 0) (given (length new))

  pub pack-then-ask : check_of board xs ≡ given tt → (tick kind core : ℕ)
      → packed_asked (packed_of board rows) tick kind core ≡ asked_of board xs tick kind core
  pack-then-ask checked tick kind core = rw checked (packed-back board rows tick kind core)

  pub packs-then-ask : (before after : List ℕ) (count : ℕ) → Packs board xs before after (Ok count) → (tick kind core : ℕ)
      → packed_asked (take count after) tick kind core ≡ asked_of board xs tick kind core
  packs-then-ask before after count packs tick kind core = go (check_of board xs) refl packs.says packs.bytes
    where
      by : (t : Bool) → check_of board xs ≡ given tt → given count ≡ then t → after ≡ laid (then t) new before
          → packed_asked (take count after) tick kind core ≡ asked_of board xs tick kind core
      by true checked says is = never (cc)
      by false checked says is =
          let all : count ≡ length new = cc in
          let counted : take count after ≡ new =
          ap (λ (n : ℕ). take n after) all ∙ ap (take (length new)) is ∙ take-append_seam new (drop (length new) before) in
          ap (λ (l : List ℕ). packed_asked l tick kind core) counted ∙ pack-then-ask checked tick kind core

      go : (a : Answer (Unit {0})) → check_of board xs ≡ a → given count ≡ and_then a (λ (_ : Unit {0}). then (ltb (length before) (length new)))
          → after ≡ laid (and_then a (λ (_ : Unit {0}). then (ltb (length before) (length new)))) new before
          → packed_asked (take count after) tick kind core ≡ asked_of board xs tick kind core
      go (given u) checked says is = by (ltb (length before) (length new)) checked says is
      go (refused number place) checked says is = never (cc)
