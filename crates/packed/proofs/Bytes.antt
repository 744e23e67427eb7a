-- The records of packed bytes, byte by byte: what the definitions say of a part of them is said of the bytes that the code reads. The one idea: a
-- part of a list is the list of what stands at its places. Assumes nothing.
use mathlib.Core.Bool.{◌&&◌, ◌||◌, and-true}
use mathlib.Core.List.{List, [], ◌∷◌}
use mathlib.Core.Path.{◌≡◌, sym, ap, ◌∙◌}
use Prim.Native.Nat.{ℕ, ◌+◌, ◌*◌}
use native.Mathlib.Omega.{arith}
use lib.Dec.{eqb, leb, ltb}
use lib.ListN.{length}
use lib.Seq.{take_all}
use Rattle.rows.specs.Upto.{upto, at}
use Rattle.rows.proofs.Upto.{upto_take}
use Rattle.text.specs.Hex.{number_from, number_in}
use Rattle.text.specs.Records.{slice_form, field, board_in}
use Rattle.packed.specs.Packed.{is_slice}
use Rattle.packed.specs.Asking.{is_there}

-- Two bytes, the high one first.
abbrev pair_of : (high low : ℕ) → ℕ
pair_of high low = 256 * high + low

byte-is : (b : ℕ) → number_in (b ∷ []) ≡ b
unfolding number_from
byte-is b = omega arith

pair_is : (high low : ℕ) → number_in (high ∷ low ∷ []) ≡ pair_of high low
unfolding number_from
pair_is high low = omega arith

-- A list of n bytes is the list of what stands at its places.
whole : (n : ℕ) (bytes : List ℕ) → length bytes ≡ n → bytes ≡ upto n (at bytes)
whole n bytes long = sym (upto_take n bytes (omega arith) ∙ take_all n bytes (omega arith))

pub board_is : (head : List ℕ) → length head ≡ 5
    → board_in head ≡ record { window = pair_of (at head 1) (at head 2); first = at head 3; second = at head 4 }
board_is head long = ap board_in (whole 5 head long) ∙ rw (pair_is, byte-is (at head 3), byte-is (at head 4))

module _ (row : List ℕ) (long : length row ≡ 8) where
  pub slice_is : is_slice row ≡ eqb (at row 0) 18 && (eqb (at row 2) 1 || eqb (at row 2) 2)
  slice_is = ap is_slice (whole 8 row long) ∙ rw (byte-is, and-true (eqb (at row 0) 18))

  pub there_is : (tick kind core : ℕ) → is_there tick kind core row ≡
      eqb (at row 2) kind && (eqb (at row 3) core && (leb (pair_of (at row 4) (at row 5)) tick
      && ltb tick (pair_of (at row 4) (at row 5) + pair_of (at row 6) (at row 7))))
  there_is tick kind core =
      ap (is_there tick kind core) (whole 8 row long) ∙
      rw (byte-is (at row 2), byte-is (at row 3), pair_is (at row 4) (at row 5), pair_is (at row 6) (at row 7))

  pub job-is : field slice_form 0 row ≡ at row 1
  job-is = ap (field slice_form 0) (whole 8 row long) ∙ byte-is (at row 1)
