-- What the code finds in a table by its iterators is what the definitions look for. Assumes nothing.
--   any-meets     some earlier row collides
--   first-runs    what runs is the job of the first row that is there
--   bad_told, later_told, passes_told   what is answered of a table on a board that passes, by what was found
use mathlib.Core.Bool.{Bool, cond}
use mathlib.Core.List.{List, [], ◌∷◌, map}
use mathlib.Core.Path.{◌≡◌, refl, sym, ap, ◌∙◌}
use Prim.Native.Nat.{ℕ, zero, suc, ◌+◌, ◌≤◌}
use native.Mathlib.Nat.{add-zero}
use native.Mathlib.Omega.{arith}
use borrow.Author.Tests.{lt-ltb, le-ltb}
use lib.Dec.{ltb}
use lib.ListN.{length, take, get_or}
use lib.Seq.{length-take-le, take_all}
use Rattle.std.specs.Prelude.{Option, None, Some, position, find}
use Rattle.std.specs.List.{list_any, range_with_len}
use Rattle.std.specs.Option.{option_map}
use Rattle.std.proofs.lemmas.Bool.Decides.{nat_tests}
use Rattle.rows.specs.Lists.{lowest}
use Rattle.rows.specs.Upto.{upto, at}
use Rattle.rows.proofs.Lowest.{position-found, position-none}
use Rattle.rows.proofs.Upto.{upto-length, upto-at, upto-same, upto-map, upto_take}
use Rattle.model.specs.Packed.{slice_in, slices_in}
use Rattle.model.specs.Refusal.{given, refused}
use Rattle.model.specs.declared.Board.{Board}
use Rattle.model.specs.declared.Slice.{Slice}
use Rattle.legal.specs.Legal.{on_board}
use Rattle.legal.proofs.CheckByCheck.{board-passed, board-after}
use Rattle.handler.specs.Check.{is_bad, collides, meets, collision_of, check_of}
use Rattle.handler.specs.Running.{is_at, running_in}

module _ {A : Type 0} (test : A → Bool) where
  find-first : (d : A) (xs : List A) → find test xs ≡ cond (ltb (lowest test xs) (length xs)) (Some (get_or xs (lowest test xs) d)) None
  unfolding lowest
  find-first d [] = refl
  find-first d (x ∷ xs) = let rest = find-first d xs in grind (arith, nat_tests)

  any-lowest : (xs : List A) → list_any test xs ≡ ltb (lowest test xs) (length xs)
  unfolding lowest
  any-lowest [] = refl
  any-lowest (x ∷ xs) = let rest = any-lowest xs in grind (arith, nat_tests)

  pub lowest-of-map : {B : Type 0} (f : B → A) (xs : List B) → lowest (λ (x : B). test (f x)) xs ≡ lowest test (map f xs)
  unfolding lowest
  lowest-of-map f [] = refl
  lowest-of-map f (x ∷ xs) = rw (lowest-of-map f xs)

numbers-range : (a n : ℕ) → range_with_len a n ≡ upto n (λ i. a + i)
numbers-range a zero = refl
numbers-range a (suc n) = rw (add-zero, numbers-range (a + 1) n, upto-same n (λ i. a + 1 + i) (λ i. a + suc i) (λ i _. omega arith))

-- The lowest of n, where there is one.
abbrev below : (n low : ℕ) → Option ℕ
below n low = cond (ltb low n) (Some low) None

find-lowest : (test : ℕ → Bool) (n : ℕ) → find test (range_with_len 0 n) ≡ below n (lowest test (upto n (λ i. i)))
find-lowest test n =
    let numbers : range_with_len 0 n ≡ upto n (λ i. i) = numbers-range 0 n ∙ upto-same n _ _ (λ i _. omega arith) in
    let found = find-first test 0 (upto n (λ i. i)) in
    let long = upto-length n (λ i. i) in
    let there = upto-at n (λ i. i) 0 (lowest test (upto n (λ i. i))) in
    rw numbers (grind (arith, nat_tests))

slices-of : (xs : List ℕ) (n : ℕ) → n ≤ length xs → slices_in n xs ≡ map slice_in (take n xs)
slices-of xs n fits = sym (upto-map slice_in n (at xs)) ∙ ap (map slice_in) (upto_take n xs fits)

pub any-meets : (xs : List ℕ) (i : ℕ) → i ≤ length xs → list_any (λ (x : ℕ). collides (slice_in (at xs i)) (slice_in x)) (take i xs) ≡ meets xs i
any-meets xs i fits =
    any-lowest (λ (x : ℕ). collides (slice_in (at xs i)) (slice_in x)) (take i xs) ∙
    rw (lowest-of-map (collides (slice_in (at xs i))) slice_in (take i xs), ← slices-of xs i fits, length-take-le i xs fits)

module _ (tick kind core : ℕ) where
  first-row : (rows : List Slice) → running_in tick kind core rows ≡ option_map (λ (s : Slice). s.job) (find (is_at tick kind core) rows)
  unfolding running_in
  first-row [] = refl
  first-row (s ∷ rows) = let rest = first-row rows in grind arith

  pub first-runs : (xs : List ℕ)
      → running_in tick kind core (slices_in (length xs) xs) ≡ option_map (λ (s : Slice). s.job) (find (is_at tick kind core) (map slice_in xs))
  first-runs xs = rw (slices-of xs (length xs) (omega arith), take_all (length xs) xs (omega arith)) (first-row (map slice_in xs))

-- ---- the ways out of the code that checks a table, on a board that passes
module _ (board : Board) (xs : List ℕ) (passes : given tt ≡ on_board {A = Unit {0}} board (given tt)) where
  pub bad_told : (bad : ℕ) → Some bad ≡ position (is_bad board) xs → refused 12 bad ≡ check_of board xs
  unfolding check_of
  bad_told bad found =
      let low = position-found (is_bad board) xs bad found in
      board-after board _ (board-passed board tt passes) (rw (← low.0, lt-ltb bad (length xs) low.1))

  module _ (none : None ≡ position (is_bad board) xs) where
    good : length xs ≤ lowest (is_bad board) xs
    good = position-none (is_bad board) xs none

    pub later_told : (later : ℕ) → Some later ≡ find (meets xs) (range_with_len 0 (length xs)) → refused 13 later ≡ check_of board xs
    unfolding check_of collision_of
    later_told later found =
        let low = found ∙ find-lowest (meets xs) (length xs) in
        board-after board _ (board-passed board tt passes) (rw (le-ltb _ _ good) (grind (arith, nat_tests)))

    pub passes_told : None ≡ find (meets xs) (range_with_len 0 (length xs)) → given tt ≡ check_of board xs
    unfolding check_of collision_of
    passes_told found =
        let low = found ∙ find-lowest (meets xs) (length xs) in
        board-after board _ (board-passed board tt passes) (rw (le-ltb _ _ good) (grind (arith, nat_tests)))
