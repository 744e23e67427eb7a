-- The ways of packing lines for C, and what each leaves. One idea: a count above 0 is that of a table that was read and checked, so its bytes
-- stand in front and answer as the table does. Assumes nothing.
--   Refuses    why nothing is written
--   Way        the two ways: lent bytes stay, or the table's are written in front of them
--   pack-way   what is promised goes by one of them
--   bytes_most   the bytes of a table in lines are at most packed_most
use mathlib.Core.Bool.{Bool, true, false, cond}
use mathlib.Core.List.{List}
use mathlib.Core.Logic.{◌⊎◌, inl, inr}
use mathlib.Core.Path.{◌≡◌, refl, ◌∙◌}
use Prim.Native.Nat.{ℕ, ◌+◌, ◌≤◌, ◌<◌}
use native.Mathlib.Omega.{arith}
use borrow.Author.Tests.{ltb-true, ltb-false}
use lib.Dec.{ltb}
use lib.ListN.{length, length-map}
use Rattle.rows.specs.Lists.{front}
use Rattle.rows.proofs.Upto.{upto-length}
use Rattle.model.specs.Packed.{pack_of, slices_in}
use Rattle.model.specs.Refusal.{Answer, given, refused, and_then}
use Rattle.handler.specs.Check.{check_of}
use Rattle.packed.specs.Packed.{packed_most, laid}
use Rattle.packed.proofs.Same.{packed-fits}
use Rattle.kernel.specs.Handed.{Handed, handed_of, column_of, tick_of}
use Rattle.clampfern.specs.Tick.{refusal_base, code_of, count_in, packs_for, bytes_for, PackedBytes}
use Rattle.clampfern.proofs.HandedFew.{rows_few}

-- The lines or their table are refused, whatever is asked of them; or the lent bytes are fewer than the table's.
abbrev pub Refuses : (lines before : List ℕ) → Type 0
Refuses lines before =
    ((number : ℕ) × ((tick kind core : ℕ) → code_of (tick_of lines tick kind core) ≡ refusal_base + number))
    ⊎ (length before < length (bytes_for (handed_of lines)))

pub data Way (lines before after : List ℕ) (count : ℕ) : Type 0 where
  stays : count ≡ 0 → after ≡ before → Refuses lines before → Way lines before after count
  put : (h : Handed) → handed_of lines ≡ given h → check_of h.board (column_of h) ≡ given tt → length (bytes_for (given h)) ≤ length before
      → count ≡ length (bytes_for (given h)) → after ≡ front (bytes_for (given h)) before → Way lines before after count

pub pack-way : {lines before after : List ℕ} {count : ℕ} → PackedBytes lines before after count → Way lines before after count
pack-way {lines} {before} {after} {count} p = read (handed_of lines) refl p.count p.bytes
  where
    fitted : (h : Handed) → handed_of lines ≡ given h → check_of h.board (column_of h) ≡ given tt → (t : Bool)
        → ltb (length before) (length (bytes_for (given h))) ≡ t → count ≡ count_in (cond t (refused 7 0) (given (length (bytes_for (given h)))))
        → after ≡ laid (cond t (refused 7 0) (given (length (bytes_for (given h))))) (bytes_for (given h)) before → Way lines before after count
    fitted h is runs true t size now = stays size now (inr (rw is (ltb-true _ _ t)))
    fitted h is runs false t size now = put h is runs (ltb-false _ _ t) size now

    checked : (h : Handed) → handed_of lines ≡ given h → (x : Answer (Unit {0})) → check_of h.board (column_of h) ≡ x
        → count ≡ count_in (and_then x (λ (_ : Unit {0}). cond (ltb (length before) (length (bytes_for (given h)))) (refused 7 0) (given (length (bytes_for (given h))))))
        → after ≡ laid (and_then x (λ (_ : Unit {0}). cond (ltb (length before) (length (bytes_for (given h)))) (refused 7 0) (given (length (bytes_for (given h))))))
        (bytes_for (given h)) before → Way lines before after count
    checked h is (given _) runs size now = fitted h is runs (ltb (length before) (length (bytes_for (given h)))) refl size now
    checked h is (refused number place) runs size now = stays size now (inl (number, λ tick kind core. rw (is, runs)))

    read : (x : Answer Handed) → handed_of lines ≡ x → count ≡ count_in (packs_for x before) → after ≡ laid (packs_for x before) (bytes_for x) before
        → Way lines before after count
    read (given h) is size now = checked h is (check_of h.board (column_of h)) refl size now
    read (refused number place) is size now = stays size now (inl (number, λ tick kind core. rw is))

-- A byte counts the rows that lines can hold.
pub bytes_most : (lines : List ℕ) → length (bytes_for (handed_of lines)) ≤ packed_most
bytes_most lines = go (handed_of lines) refl
  where
    go : (x : Answer Handed) → handed_of lines ≡ x → length (bytes_for x) ≤ packed_most
    go (given h) is =
        let all : length (slices_in (length (column_of h)) (column_of h)) ≡ length h.rows = upto-length (length (column_of h)) _ ∙ length-map h.rows pack_of in
        packed-fits h.board (slices_in (length (column_of h)) (column_of h)) (omega (arith, rows_few lines h is))
    go (refused number place) is = omega arith
