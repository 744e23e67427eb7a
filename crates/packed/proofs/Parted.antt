-- What packed bytes answer, by their parts. One idea: the rows are the bytes behind the board's record, cut where each record ends. Assumes nothing.
--   parts_are              the parts of bytes that are cut by arrays
--   asked_not              bytes with no such head are refused
--   asked_none, asked_beyond, asked_inside   of the others the rows are asked, then the board
use mathlib.Core.Bool.{Bool, true, false, cond, not, ◌&&◌, ◌||◌, and_assoc, and-eq-true_iff}
use mathlib.Core.List.{List, [], ◌∷◌, map}
use mathlib.Core.Path.{◌≡◌, refl, sym, ap, ◌∙◌}
use Prim.Native.Nat.{ℕ, zero, suc, ◌+◌, ◌-◌, ◌*◌, ◌/◌, ◌%◌}
use native.Mathlib.Nat.{add-zero}
use native.Mathlib.Omega.{arith}
use borrow.Author.Tests.{eqb-true}
use lib.Dec.{eqb}
use lib.ListN.{length, take, drop}
use lib.Seq.{drop-drop, length-take-le}
use Rattle.std.specs.Prelude.{Option, ◌==◌}
use Rattle.std.specs.List.{list_all}
use Rattle.std.specs.Simd.{first_chunks}
use Rattle.std.proofs.lemmas.Bool.Decides.{nat_tests}
use Rattle.rows.specs.Lists.{lowest}
use Rattle.rows.specs.Upto.{upto, at}
use Rattle.rows.proofs.Upto.{upto-length, upto-same, upto-map}
use Rattle.model.specs.Packed.{kind_number, kind_of}
use Rattle.model.specs.Refusal.{given, refused, and_then}
use Rattle.model.specs.declared.Board.{Board}
use Rattle.text.specs.Records.{board_form, slice_form, size_of, is_a, field, board_in}
use Rattle.handler.specs.Running.{is_beyond, is_at, running_in}
use Rattle.handler.proofs.Found.{lowest-of-map}
use Rattle.packed.specs.Packed.{row_bytes, is_slice, count_in, is_packed, slice_of, rows_in, packed_asked}
use Rattle.packed.specs.Asking.{is_headed, Parts, is_there, job_of, rows_say}

-- ---- the rows
chunks : (n from : ℕ) (bytes : List ℕ) → first_chunks 8 n (drop from bytes) ≡ upto n (λ i. take 8 (drop (from + 8 * i) bytes))
chunks zero from bytes = refl
chunks (suc n) from bytes =
    let next = upto-same n (λ i. take 8 (drop (from + 8 + 8 * i) bytes)) (λ i. take 8 (drop (from + 8 * suc i) bytes))
    (λ i _. ap (λ (k : ℕ). take 8 (drop k bytes)) (omega arith)) in
    rw (add-zero, drop-drop 8 from bytes, chunks n (from + 8) bytes, next)

pub parts_are : (bytes head behind left : List ℕ) (rows : List (List ℕ)) → head ≡ take 5 bytes → behind ≡ drop 5 bytes
    → length behind + 5 ≡ length bytes → rows ≡ first_chunks 8 (length behind / 8) behind → length left ≡ length behind % 8
    → true ≡ (length left == 0) → at head 0 ≡ 1 → Parts bytes head rows
parts_are bytes head behind left rows front is long cut size none tag =
    let empty : length left ≡ 0 = eqb-true (length left) 0 (sym none) in
    let many : length bytes - 5 ≡ length behind = omega arith in
    record {
      headed = rw (rw front at tag, length-take-le 5 bytes (omega arith), many, ← size, empty);
      front = front;
      behind =
          cut ∙ ap (first_chunks 8 (length behind / 8)) is ∙ chunks (length behind / 8) 5 bytes
          ∙ ap (λ (n : ℕ). upto (n / 8) (row_bytes bytes)) (sym many);
    }

-- ---- what they say
all-lowest : {A : Type 0} (test : A → Bool) (xs : List A) → list_all test xs ≡ eqb (lowest (λ (x : A). not (test x)) xs) (length xs)
unfolding lowest
all-lowest test [] = refl
all-lowest test (x ∷ xs) = let rest = all-lowest test xs in grind (arith, nat_tests)

kind-is : (t : Bool) (k : ℕ) → t && (eqb k 1 || eqb k 2) ≡ true → kind_number (kind_of k) ≡ k
kind-is t k h = grind (arith, nat_tests)

module _ (tick kind core : ℕ) where
  at-there : (row : List ℕ) → is_slice row ≡ true → is_at tick kind core (slice_of row) ≡ is_there tick kind core row
  at-there row is = rw (kind-is (is_a slice_form row) (field slice_form 1 row) is)

  running-job : (rows : List (List ℕ)) → list_all is_slice rows ≡ true → running_in tick kind core (map slice_of rows) ≡ job_of tick kind core rows
  unfolding running_in
  running-job [] all = refl
  running-job (row ∷ rows) all =
      let both = (and-eq-true_iff (is_slice row) (list_all is_slice rows)).0 all in
      let here = at-there row both.0 in
      let later = running-job rows both.1 in
      grind arith

  -- Bytes with no such head, and those with one.
  pub asked_not : (bytes : List ℕ) → false ≡ is_headed bytes → refused 9 0 ≡ packed_asked bytes tick kind core
  unfolding is_packed
  asked_not bytes none = rw (← and_assoc (is_a board_form (take (size_of board_form) bytes)), ← none)

  module _ (bytes head : List ℕ) (rows : List (List ℕ)) (parts : Parts bytes head rows) where
    packed-all : is_packed bytes ≡ list_all is_slice rows
    unfolding is_packed
    packed-all =
        let n = count_in bytes in
        rw (
          ← and_assoc (is_a board_form (take (size_of board_form) bytes)),
          parts.headed,
          lowest-of-map (λ (r : List ℕ). not (is_slice r)) (row_bytes bytes) (upto n (λ i. i)),
          upto-map (row_bytes bytes) n (λ i. i),
          all-lowest is_slice rows,
          parts.behind,
          upto-length n (row_bytes bytes),
        )

    asked-by : packed_asked bytes tick kind core ≡
        and_then (rows_say tick kind core rows) (λ (x : Option ℕ). cond (is_beyond (board_in head) tick kind core) (refused 11 0) (given x))
    asked-by = rw packed-all (go (list_all is_slice rows) refl)
      where
        go : (all : Bool) → list_all is_slice rows ≡ all
            → cond all (cond (is_beyond (board_in (take (size_of board_form) bytes)) tick kind core) (refused 11 0)
            (given (running_in tick kind core (rows_in bytes)))) (refused 9 0)
            ≡ and_then (cond all (given (job_of tick kind core rows)) (refused 9 0))
            (λ (x : Option ℕ). cond (is_beyond (board_in head) tick kind core) (refused 11 0) (given x))
        go true all = rw (← parts.front, ← upto-map slice_of (count_in bytes) (row_bytes bytes), ← parts.behind, running-job rows all)
        go false all = refl

    pub asked_none : (number place : ℕ) → refused number place ≡ rows_say tick kind core rows → refused number place ≡ packed_asked bytes tick kind core
    asked_none number place say = rw (asked-by, ← say)

    module _ (board : Board) (is : board ≡ board_in head) (answer : Option ℕ) (say : given answer ≡ rows_say tick kind core rows) where
      of-head : {t : Bool} → t ≡ is_beyond board tick kind core → t ≡ is_beyond (board_in head) tick kind core
      of-head e = e ∙ ap (λ (b : Board). is_beyond b tick kind core) is

      pub asked_beyond : true ≡ is_beyond board tick kind core → refused 11 0 ≡ packed_asked bytes tick kind core
      asked_beyond beyond = rw (asked-by, ← say, ← of-head beyond)

      pub asked_inside : false ≡ is_beyond board tick kind core → given answer ≡ packed_asked bytes tick kind core
      asked_inside inside = rw (asked-by, ← say, ← of-head inside)
