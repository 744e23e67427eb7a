-- Packed bytes that are stored one behind the other, and what packing owes at each of its ends.
--   rows_more       one more record of the rows
--   board_fits      the board of a table that can be run fits the bytes that its record has for it
--   pack_short, pack_all   bytes that are too few for a table that can be run, and bytes that are not
-- Assumes nothing.
use mathlib.Core.Bool.{true, false}
use mathlib.Core.List.{List, [], ◌∷◌, ◌++◌, append_assoc, append-nil}
use mathlib.Core.Path.{◌≡◌, refl, sym}
use Prim.Native.Nat.{ℕ, ◌+◌, ◌-◌, ◌*◌, ◌<◌}
use native.Mathlib.Omega.{arith}
use borrow.Rule.Slice.PartMut.{put_mid}
use lib.Dec.{ltb}
use lib.ListN.{length, drop, length-append}
use lib.Seq.{drop-drop, take_at, drop_at}
use Rattle.std.specs.Prelude.{Ok, Err}
use Rattle.rows.specs.Lists.{front}
use Rattle.rows.specs.Upto.{upto, at}
use Rattle.rows.proofs.Upto.{upto-length, upto-more}
use Rattle.model.specs.Packed.{slice_in, slices_in}
use Rattle.model.specs.Refusal.{given}
use Rattle.model.specs.declared.Board.{Board}
use Rattle.model.specs.declared.Refusal.TheVariants.{TooShort}
use Rattle.model.specs.declared.Slice.{Slice}
use Rattle.legal.proofs.CheckByCheck.{Passed}
use Rattle.text.specs.Output.{slice_record}
use Rattle.text.specs.Records.{board_form, slice_form, size_of}
use Rattle.handler.specs.Check.{check_of}
use Rattle.handler.proofs.Judged.{passes-exactly}
use Rattle.packed.specs.Packed.{board_record, records_of, packed_of, Packs}
use Rattle.packed.proofs.Same.{packed-size}

records-append : (rows more : List Slice) → records_of (rows ++ more) ≡ records_of rows ++ records_of more
records-append [] more = refl
records-append (s ∷ rows) more = rw (records-append rows more) (sym (append_assoc (slice_record s) (records_of rows) (records_of more)))

-- one record more
pub rows_more : (n : ℕ) (column : List ℕ)
    → records_of (slices_in (n + 1) column) ≡ records_of (slices_in n column) ++ slice_record (slice_in (at column n))
rows_more n column =
    let f : ℕ → Slice = λ i. slice_in (at column i) in
    rw (upto-more n f, records-append (upto n f) (f n ∷ []), append-nil (slice_record (f n)))

-- a head and what stands behind it, at the front of a table
stored : (before head behind : List ℕ) (k : ℕ) → length head ≡ 5 → length behind ≡ k
    → put_mid 5 (5 + k - 5) (head ++ drop 5 before) behind ≡ front (head ++ behind) before
stored before head behind k five long =
    let all : length (head ++ behind) ≡ 5 + (5 + k - 5) = omega (arith, length-append head behind) in
    rw (take_at head (drop 5 before) 5 five, drop_at head (drop 5 before) 5 five, drop-drop (5 + k - 5) 5 before, all)
    (sym (append_assoc head behind (drop (5 + (5 + k - 5)) before)))

module _ (board : Board) (xs : List ℕ) where
  abbrev rows : List Slice
  rows = slices_in (length xs) xs

  table-size : length (packed_of board rows) ≡ size_of board_form + size_of slice_form * length xs
  table-size = omega (arith, packed-size board rows, upto-length (length xs) (λ i. slice_in (at xs i)))

  module _ (checked : given tt ≡ check_of board xs) where
    pub board_fits : (board.window < 65536) × (board.first < 256) × (board.second < 256)
    board_fits =
        let passed : Passed board = ((passes-exactly xs board).0 (sym checked)).0 in
        (omega arith, omega arith, omega arith)

    module _ (before : List ℕ) where
      pub pack_short : true ≡ ltb (length before) (size_of board_form + size_of slice_form * length xs) → Packs board xs before before (Err TooShort)
      pack_short few = record { says = rw (← checked, table-size, ← few); bytes = rw (← checked, table-size, ← few) }

      pub pack_all : (head behind : List ℕ) → head ≡ board_record board → behind ≡ records_of rows
          → false ≡ ltb (length before) (size_of board_form + size_of slice_form * length xs)
          → Packs board xs before (put_mid 5 (5 + 8 * length xs - 5) (head ++ drop 5 before) behind) (Ok (5 + 8 * length xs))
      pack_all head behind is are fits =
          let size : length (records_of rows) ≡ 8 * length xs = omega (arith, table-size) in
          record {
            says = rw (← checked, table-size, ← fits);
            bytes = rw (← checked, table-size, ← fits, is, are) (stored before (board_record board) (records_of rows) (8 * length xs) refl size);
          }
