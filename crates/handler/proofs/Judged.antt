-- How an answer runs through the checks of a table, as legal/proofs/CheckByCheck.antt has it for sets: one way for each check that may stop a table,
-- and one for a table that passes. One idea: the row that a refusal tells is the lowest of which its cause holds. Assumes nothing.
--   Meets                         row i shares a tick with an earlier one
--   clear_at                      two rows of a table whose rows are clear of each other, by their numbers
--   Judged                        the ways, with what each has found
--   check-judged, judged-check    the definition's answer is come to by a way, and no other answer is
--   bad-row-exactly, meets-exactly, passes-exactly   when exactly 12 is given, 13, and neither
use mathlib.Core.Path.{◌≡◌, refl, sym, ◌∙◌}
use mathlib.Core.Bool.{false}
use mathlib.Core.List.{List}
use mathlib.Core.Logic.{◌↔◌}
use Prim.Native.Nat.{ℕ, ◌≤◌, ◌<◌}
use native.Mathlib.Omega.{arith}
use borrow.Author.Tests.{lt-ltb, le-ltb, not-false}
use lib.ListN.{length, get_or}
use Rattle.rows.specs.Lists.{All, Pairs, lowest}
use Rattle.rows.specs.Numbered.{LowestIn}
use Rattle.rows.specs.Upto.{upto, at}
use Rattle.rows.proofs.Lists.{all_map, all-at, pairs-at}
use Rattle.rows.proofs.Lowest.{none-lowest, lowest-none, lowest-is, lowest-of, some-tells}
use Rattle.rows.proofs.Tells.{Tells, less-tells, not-tells, untold, fact, no-fact, by-test}
use Rattle.rows.proofs.Upto.{upto-length, upto-at, upto_all, upto-pairs}
use Rattle.model.specs.Empty.{no_slice}
use Rattle.model.specs.Packed.{slice_in, slices_in}
use Rattle.model.specs.Refusal.{Answer, given, refused}
use Rattle.model.specs.declared.Board.{Board}
use Rattle.model.specs.declared.Slice.{Slice}
use Rattle.legal.specs.Legal.{on_board}
use Rattle.legal.proofs.CheckByCheck.{Passed, BoardRan, window_off, cores-off, board-on, board-ran, ran-board, board-refused}
use Rattle.handler.specs.Check.{is_bad, collides, meets, collision_of, check_of}
use Rattle.handler.proofs.Tests.{Good, good-tells, Shares, Clear, Crosses, crosses-tell, crosses-shares, shares-crosses}

module _ (xs : List ℕ) where
  abbrev row : ℕ → Slice
  row i = slice_in (at xs i)

  abbrev pub Meets : ℕ → Type 0
  Meets i = (k : ℕ) × (k < i) × Shares (row i) (row k)

  abbrev Finds : ℕ → Type 0
  Finds i = (k : ℕ) × (k < i) × Crosses (row i) (row k)

  finds-tells : (i : ℕ) → Tells (Finds i) (meets xs i)
  finds-tells i = some-tells (collides (row i)) (Crosses (row i)) (crosses-tell (row i)) i row

  meets-finds : (i : ℕ) → Meets i → Finds i
  meets-finds i m = (m.0, m.1, shares-crosses (row i) (row m.0) m.2)

  abbrev pub numbers : List ℕ
  numbers = upto (length xs) (λ i. i)

  number_at : (i : ℕ) → i < length xs → get_or numbers i 0 ≡ i
  number_at i l = upto-at (length xs) (λ i. i) 0 i l

  pub clear_at : Pairs Clear (slices_in (length xs) xs) → (i k : ℕ) → i < k → k < length xs → Clear (row i) (row k)
  clear_at clear i k l m =
      rw (upto-at (length xs) row no_slice i (omega arith), upto-at (length xs) row no_slice k m) at
      (pairs-at Clear no_slice (slices_in (length xs) xs) i k l (rw (upto-length (length xs) row) m) clear)

  -- Clear rows are those of which none meets an earlier one.
  clear-meets : Pairs Clear (slices_in (length xs) xs) → (i : ℕ) → i < length xs → Meets i → ⊥
  clear-meets clear i l m =
      clear_at clear m.0 i m.1 l (sym m.2.0.0, sym m.2.0.1) m.2.1.0 m.2.1.2 m.2.1.1

  meets-clear : ((i : ℕ) → i < length xs → Meets i → ⊥) → Pairs Clear (slices_in (length xs) xs)
  meets-clear none = upto-pairs Clear (length xs) row (λ i k l m same tick r1 r2. none k m (i, l, ((sym same.0, sym same.1), (tick, r2, r1))))

  module _ (board : Board) where
    pub data Judged : Answer (Unit {0}) → Type 0 where
      board-out : (number place : ℕ) → number ≤ 2 → refused number place ≡ on_board {A = Unit {0}} board (given tt) → Judged (refused number place)
      row-bad : (place : ℕ) → Passed board → LowestIn 0 (λ (x : ℕ). Good board x → ⊥) xs place → Judged (refused 12 place)
      row-meets : (place : ℕ) → Passed board → All (Good board) xs → LowestIn 0 Meets numbers place → Judged (refused 13 place)
      table_runs : Passed board → All (Good board) xs → Pairs Clear (slices_in (length xs) xs) → Judged (given tt)

    good-rows : length xs ≤ lowest (is_bad board) xs → All (Good board) xs
    good-rows past =
        all_map (λ (x : ℕ). is_bad board x ≡ false) (Good board)
        (λ x e. fact (good-tells board x) (not-false _ e))
        xs (lowest-none (is_bad board) xs past)

    no-bad : All (Good board) xs → lowest (is_bad board) xs ≡ length xs
    no-bad good =
        none-lowest (is_bad board) xs
        (all_map (Good board) (λ (x : ℕ). is_bad board x ≡ false) (λ x g. untold (not-tells (good-tells board x)) (λ bad. bad g)) xs good)

    module _ (good : All (Good board) xs) where
      finds-meets : (i : ℕ) → i < length xs → Finds i → Meets i
      finds-meets i l f =
          let some : (k : ℕ) → k < length xs → 0 < (row k).length = λ k m. (all-at (Good board) 0 xs k m good).1.0 in
          (f.0, f.1, crosses-shares (row i) (row f.0) (some i l) (some f.0 (omega (arith, f.1))) f.2)

      lowest-meets : collision_of xs < length xs → LowestIn 0 Meets numbers (collision_of xs)
      unfolding collision_of
      lowest-meets l =
          let low = lowest-of 0 (meets xs) Finds finds-tells numbers _ refl (rw (upto-length (length xs) (λ i. i)) l) in
          record {
            there = low.there;
            bad = finds-meets _ (rw (number_at _ l) l) low.bad;
            lower = λ i below m. low.lower i below (meets-finds _ m);
          }

      meets-lowest : (i : ℕ) → LowestIn 0 Meets numbers i → i ≡ collision_of xs
      unfolding collision_of
      meets-lowest i low =
          let l : i < length xs = omega (arith, low.there, upto-length (length xs) (λ i. i)) in
          lowest-is 0 (meets xs) Finds finds-tells numbers i
          (record {
            there = low.there;
            bad = meets-finds _ low.bad;
            lower = λ k below f. low.lower k below (finds-meets _ (rw (number_at k (omega arith)) (omega arith)) f);
          })

      none-meets : length xs ≤ collision_of xs → (i : ℕ) → i < length xs → Meets i → ⊥
      unfolding collision_of
      none-meets past i l m =
          let none = lowest-none (meets xs) numbers (rw (upto-length (length xs) (λ i. i)) past) in
          no-fact (finds-tells i)
          (rw (number_at i l) at (all-at (λ (k : ℕ). meets xs k ≡ false) 0 numbers i (rw (upto-length (length xs) (λ i. i)) l) none))
          (meets-finds i m)

      no-collision : ((i : ℕ) → i < length xs → Meets i → ⊥) → collision_of xs ≡ length xs
      unfolding collision_of
      no-collision none =
          none-lowest (meets xs) numbers
          (upto_all (λ (i : ℕ). meets xs i ≡ false) (length xs) (λ i. i) (λ i l. untold (finds-tells i) (λ f. none i l (finds-meets i l f)))) ∙
          upto-length (length xs) (λ i. i)

    of-board : {rest answer : Answer (Unit {0})} → BoardRan board rest answer → (Passed board → Judged rest) → Judged answer
    of-board (window_off off) goes = board-out 1 0 (omega arith) (ran-board board (given tt) (window_off off))
    of-board (cores-off window off) goes = board-out 2 0 (omega arith) (ran-board board (given tt) (cores-off window off))
    of-board (board-on passed) goes = goes passed

    pub check-judged : Judged (check_of board xs)
    unfolding check_of
    check-judged =
        of-board (board-ran board _)
        (λ passed. by-test Judged _ _ (less-tells (lowest (is_bad board) xs) (length xs))
        (λ l. row-bad _ passed (lowest-of 0 (is_bad board) _ (λ x. not-tells (good-tells board x)) xs _ refl l))
        (λ past.
        let good : All (Good board) xs = good-rows (omega arith) in
        by-test Judged _ _ (less-tells (collision_of xs) (length xs)) (λ l. row-meets _ passed good (lowest-meets good l))
        (λ past. table_runs passed good (meets-clear (none-meets good (omega arith))))))

    after : {answer rest : Answer (Unit {0})} → Passed board → answer ≡ rest → answer ≡ on_board board rest
    after {rest = rest} p e = e ∙ ran-board board rest (board-on p)

    pub judged-check : {answer : Answer (Unit {0})} → Judged answer → answer ≡ check_of board xs
    unfolding check_of
    judged-check (board-out number place small is) = board-refused board tt number place _ is
    judged-check (row-bad place p low) =
        after p (rw (← lowest-is 0 (is_bad board) _ (λ x. not-tells (good-tells board x)) xs place low, lt-ltb place (length xs) low.there))
    judged-check (row-meets place p good low) =
        let there : place < length xs = omega (arith, low.there, upto-length (length xs) (λ i. i)) in
        after p (rw (no-bad good, le-ltb (length xs) (length xs) (omega arith), ← meets-lowest good place low, lt-ltb place (length xs) there))
    judged-check (table_runs p good clear) =
        after p (rw (no-bad good, no-collision good (clear-meets clear), le-ltb (length xs) (length xs) (omega arith)))

    -- Refusal 12 is given exactly at the lowest row that is no slice or not placed on the board, of a board that passes 1 and 2,
    pub bad-row-exactly : {place : ℕ} → (check_of board xs ≡ refused 12 place) ↔ (Passed board × LowestIn 0 (λ (x : ℕ). Good board x → ⊥) xs place)
    bad-row-exactly {place} = (λ e. of-bad (rw e at check-judged), λ h. sym (judged-check (row-bad place h.0 h.1)))
      where
        of-bad : Judged (refused 12 place) → Passed board × LowestIn 0 (λ (x : ℕ). Good board x → ⊥) xs place
        of-bad (board-out number place small is) = absurd (omega arith)
        of-bad (row-bad place p low) = (p, low)

    -- 13 exactly at the lowest row that shares a tick on a core with an earlier one, where 12 is not given,
    pub meets-exactly : {place : ℕ} → (check_of board xs ≡ refused 13 place) ↔ (Passed board × All (Good board) xs × LowestIn 0 Meets numbers place)
    meets-exactly {place} = (λ e. of_meets (rw e at check-judged), λ h. sym (judged-check (row-meets place h.0 h.1 h.2)))
      where
        of_meets : Judged (refused 13 place) → Passed board × All (Good board) xs × LowestIn 0 Meets numbers place
        of_meets (board-out number place small is) = absurd (omega arith)
        of_meets (row-meets place p good low) = (p, good, low)

    -- and a table passes exactly where its rows are good and clear of each other.
    pub passes-exactly : (check_of board xs ≡ given tt) ↔ (Passed board × All (Good board) xs × Pairs Clear (slices_in (length xs) xs))
    passes-exactly = (λ e. of-runs (rw e at check-judged), λ h. sym (judged-check (table_runs h.0 h.1 h.2)))
      where
        of-runs : Judged (given tt) → Passed board × All (Good board) xs × Pairs Clear (slices_in (length xs) xs)
        of-runs (table_runs p good clear) = (p, good, clear)
