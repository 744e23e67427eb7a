-- The position goes round the window. One idea: a tick of the window is followed by another, the next one or 0 after the last. Assumes nothing.
--   round-passes, round-back   started at 0, it is at tick i after i moves, and after a window's moves at 0 again
--   round-moved                none of these moves is refused
--   refused-kept               a move that is refused leaves the position where it was
--   done, stands               of a position by value: whether it was moved, and where it then is
--   moved-on-moves             moving a position by value does to it what moving a lent one does
use mathlib.Core.Path.{◌≡◌, refl, ap, ◌∙◌}
use mathlib.Core.Bool.{cond}
use Prim.Native.Nat.{ℕ, zero, suc, ◌+◌, ◌-◌, ◌<◌}
use native.Mathlib.Numerals.{add-one}
use native.Mathlib.Omega.{arith}
use borrow.Author.Tests.{lt-leb, eq-eqb, ne_eqb}
use lib.Dec.{eqb}
use Rattle.model.specs.Limits.{window_most}
use Rattle.std.specs.Prelude.{Result, Ok, Err}
use Rattle.model.specs.Refusal.{given, says}
use Rattle.model.specs.declared.Refusal.{Refusal}
use Rattle.legal.proofs.CheckByCheck.{Within, not-outside}
use Rattle.handler.specs.Position.{next_of, left_at, answered, MovesOn}

next-inside : (window tick : ℕ) → Within window_most window → tick < window → next_of window tick ≡ given (cond (eqb (tick + 1) window) 0 (tick + 1))
unfolding next_of
next-inside window tick legal l = rw (not-outside window_most window legal, lt-leb window tick l)

moved-only : (r : Result (Unit {0}) Refusal) → says r ≡ given tt → r ≡ Ok tt
moved-only r e = grind arith

module _ (window : ℕ) (legal : Within window_most window) (p : ℕ → ℕ) (r : ℕ → Result (Unit {0}) Refusal) (start : p 0 ≡ 0)
    (moves : (i : ℕ) → MovesOn window (p i) (r i) (p (i + 1))) where
  left-at : (i : ℕ) → i < window → p i ≡ i → p (i + 1) ≡ cond (eqb (i + 1) window) 0 (i + 1)
  left-at i l e = (moves i).position ∙ rw (e, next-inside window i legal l)

  pub round-passes : (i : ℕ) → i < window → p i ≡ i
  round-passes zero l = start
  round-passes (suc i) l =
      rw (add-one, ne_eqb (suc i) window (omega arith)) at (left-at i (omega arith) (round-passes i (omega arith)))

  pub round-back : p window ≡ 0
  round-back =
      let last : window - 1 + 1 ≡ window = omega arith in
      rw (last, eq-eqb window window refl) at (left-at (window - 1) (omega arith) (round-passes (window - 1) (omega arith)))

  pub round-moved : (i : ℕ) → i < window → r i ≡ Ok tt
  round-moved i l = moved-only (r i) ((moves i).says ∙ rw (round-passes i l, next-inside window i legal l))

pub refused-kept : (window tick after : ℕ) (refusal : Refusal) → MovesOn window tick (Err refusal) after → after ≡ tick
refused-kept window tick after refusal m = let answer = m.says in let stays = m.position in grind arith

abbrev pub done : Result ℕ Refusal → Result (Unit {0}) Refusal
done (Ok next) = Ok tt
done (Err refusal) = Err refusal

abbrev pub stands : ℕ → Result ℕ Refusal → ℕ
stands tick (Ok next) = next
stands tick (Err refusal) = tick

pub moved-on-moves : (window tick : ℕ) (r : Result ℕ Refusal) → says r ≡ next_of window tick → MovesOn window tick (done r) (stands tick r)
moved-on-moves window tick (Ok next) e = record { says = ap answered e; position = ap (left_at tick) e }
moved-on-moves window tick (Err refusal) e = record { says = ap answered e; position = ap (left_at tick) e }
