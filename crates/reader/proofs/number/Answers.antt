-- `reader::number` meets its contract: a turn reads one digit more, whose number fits, and the digits are over where a byte is none. Assumes nothing.
use mathlib.Core.List.{List, [], ◌∷◌}
use mathlib.Core.Path.{◌≡◌, refl, ap, ◌∙◌}
use Prim.Native.Nat.{ℕ, zero, suc, ◌+◌, ◌*◌, ◌^◌, ◌≤◌, ◌<◌}
use native.Mathlib.Nat.{pow-succ', pow-le-pow_right, lt_of_lt_of_le}
use native.Mathlib.Numerals.{add-one}
use native.Mathlib.Omega.{arith}
use lib.ListN.{length, take, drop, get_or, length-take, drop_of_length-le}
use lib.Seq.{drop-cons, take-nil}
use denote.Param.Members.{Mut}
use denote.Ref.{Bor}
use Rattle.std.proofs.Common.{Option, None, Some, Iter, rules}
use Rattle.std.specs.Fn.{Called}
use Rattle.std.specs.declared.iter.Take.{Take}
use Rattle.std.specs.declared.iter.MapWhile.{MapWhile}
use Rattle.std.specs.Iterator.Adapters.{take_source, take_count, take_steps, map_while_source, map_while_steps}
use Rattle.std.specs.Slice.Iter.{iter_rest, iter_steps}
use Rattle.std.proofs.lemmas.Iterator.{YieldsList}
use Rattle.std.proofs.lemmas.Iterator.Consumers.{YieldsList-from_shown, YieldsList-turn, YieldsList-end}
use Rattle.std.proofs.lemmas.List.{length_push, get_or-take}
use Rattle.rows.proofs.Lists.{all-at}
use Rattle.rows.proofs.Never.{never}
use Rattle.text.specs.Hex.{nibble_of}
use Rattle.reader.specs.Cut.{digits_in, hex_from}
use Rattle.reader.proofs.Digits.{digits-none, digits-one, digits-small, slice-rest}
use Rattle.reader.proofs.number.Invariants.{Running}
use Rattle.reader.proofs.number.Goals as goal

over : (bs : List ℕ) → length bs ≡ 0 → digits_in bs ≡ []
unfolding digits_in
over [] e = refl
over (b ∷ bs) e = absurd (omega arith)

-- The digits that the loop goes over: those of the bytes that are left, as many as are asked for.
module _ {F : Type 0} (g : Mut F (Bor ℕ × Unit {0}) (Option ℕ)) (reads : (f : F) (b : Bor ℕ) (d : Option ℕ) (f' : F) → Called g f (b, tt) d f' → d ≡ nibble_of b.now) where
  abbrev Source : Type 0
  Source = MapWhile (Take (Iter ℕ)) F

  abbrev left : Source → List ℕ
  left s = take (take_count (map_while_source s)) (digits_in (iter_rest (take_source (map_while_source s))))

  abbrev Turn : Source → Option ℕ → Source → Type 0
  Turn = map_while_steps (take_steps iter_steps) g

  none : (s t : Source) → Turn s None t → length (left s) ≡ 0
  none s t (None, step, _) = go (take_count (map_while_source s)) step
    where
      go : (n : ℕ) → (0 < n → iter_steps (take_source (map_while_source s)) None (take_source (map_while_source t))) → length (take n (digits_in (iter_rest (take_source (map_while_source s))))) ≡ 0
      go zero h = refl
      go (suc n) h = rw (over _ (h (omega arith)).0)
  none s t (Some b, step, called) = rw (digits-none step.0 (reads _ b _ _ called), take-nil)

  some : (s : Source) (d : ℕ) (t : Source) → Turn s (Some d) t → left s ≡ d ∷ left t
  some s d t (None, step, e) = never (cc e.0)
  some s d t (Some b, step, called) = rw (digits-one step.0 (reads _ b _ _ called), ← step.1, add-one)

  yields : (s : Source) (most : ℕ) (text : List ℕ) → take_count (map_while_source s) ≡ most → iter_rest (take_source (map_while_source s)) ≡ text
      → YieldsList Turn (λ d. d) s (take most (digits_in text))
  yields s most text e f = rw (← e, ← f) (YieldsList-from_shown Turn (λ d. d) left none some s)

-- One digit more.
module _ (most : ℕ) (text : List ℕ) {n value : ℕ} (r : Running (take most (digits_in text)) n value) {x : ℕ}
    (here : (n < length (take most (digits_in text))) × (x ≡ get_or (take most (digits_in text)) n x)) where
  few : (n < most) × (n < length (digits_in text))
  few = (omega (arith, length-take most (digits_in text), here.0), omega (arith, length-take most (digits_in text), here.0))

  small : x ≤ 15
  small = rw (here.1 ∙ get_or-take most (digits_in text) n x few.0) (all-at (λ d. d ≤ 15) x (digits_in text) n few.1 (digits-small text))

  more-small : 16 * value + x < 16 ^ suc n
  more-small = rw (pow-succ' 16 n) (omega (arith, r.small, small))

  fits : most ≤ 8 → 16 * value + x < 2 ^ 32
  fits eight =
      let most-eight : suc n ≤ 8 = omega (arith, few.0) in
      lt_of_lt_of_le more-small (pow-le-pow_right {n = 16} (omega arith) most-eight)

  more : Running (take most (digits_in text)) (n + 1) (16 * value + x)
  unfolding hex_from
  more =
      let within = here.0 in
      let e : drop n (take most (digits_in text)) ≡ x ∷ drop (n + 1) (take most (digits_in text)) = rw (add-one, drop-cons (take most (digits_in text)) n x, ← here.1) in
      record { few = omega (arith, here.0); small = rw add-one more-small; spells = rw e at r.spells }

-- The digit of a turn.
turn : (c : goal.In-Some) → (c.loop-digit.digits < length (take c.args.most (digits_in c.args.text.now)))
    × (c.in-Some.digit ≡ get_or (take c.args.most (digits_in c.args.text.now)) c.loop-digit.digits c.in-Some.digit)
turn c =
    rw c.loop-digit.invariant.0
    (YieldsList-turn (yields _ (λ f b d f' k. search rules) _ c.args.most c.args.text.now (cc) (cc)) c.loop-digit.yielded _ c.loop-digit.yielded_by _ _ c.in-Some.digit c.in-Some.is c.next.ensures.steps)

pub overflow_mul-value : goal.overflow_mul-value
overflow_mul-value c = omega (arith, fits c.args.most c.args.text.now c.loop-digit.invariant.1 (turn c) (omega arith))

pub overflow_add-value : goal.overflow_add-value
overflow_add-value c = omega (arith, fits c.args.most c.args.text.now c.loop-digit.invariant.1 (turn c) (omega arith))

pub loop-digit-preserved : goal.loop-digit-preserved
loop-digit-preserved c = (omega (arith, length_push c.loop-digit.yielded c.in-Some.digit), more _ _ c.loop-digit.invariant.1 (turn c))

pub returns : goal.returns
unfolding hex_from
returns c =
    let t = YieldsList-end (yields _ (λ f b d f' k. search rules) _ c.args.most c.args.text.now (cc) (cc)) c.loop-digit.yielded _ c.loop-digit.yielded_by _ _ c.in-None.is c.next.ensures.steps in
    let all : c.loop-digit.digits ≡ length (take c.args.most (digits_in c.args.text.now)) = c.loop-digit.invariant.0 ∙ t.1 in
    let none = drop_of_length-le (take c.args.most (digits_in c.args.text.now)) {i = c.loop-digit.digits} (omega arith) in
    record { value = rw none at c.loop-digit.invariant.1.spells; rest = slice-rest _ c.args.text.now ∙ ap (λ k. drop k c.args.text.now) all }
