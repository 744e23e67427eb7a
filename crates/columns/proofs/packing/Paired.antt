-- A loop over two columns of one length, with the places of their numbers: `xs.iter().zip(ys).enumerate()`. Assumes nothing.
--   paired       the turn after those that were: the next place, and what both columns have there
--   paired-end   there was a turn for each place
use mathlib.Core.Path.{◌≡◌, ap, ◌∙◌}
use mathlib.Core.List.{List}
use Prim.Native.Nat.{ℕ, ◌+◌, ◌<◌}
use native.Mathlib.Omega.{arith}
use denote.Ref.{Bor}
use lib.ListN.{length, get_or}
use Rattle.std.proofs.Common.{Option, Some, None, Iter}
use Rattle.std.specs.Iterator.{Yields}
use Rattle.std.specs.Iterator.Adapters.{zip_first, zip_second, enumerate_source, enumerate_count, enumerate_steps}
use Rattle.std.specs.declared.iter.Zip.{Zip}
use Rattle.std.specs.declared.iter.Enumerate.{Enumerate}
use Rattle.std.specs.List.{zip, enumerate_from}
use Rattle.std.specs.Slice.Iter.{iter_rest}
use Rattle.std.proofs.iter.Yields.{fronts}
use Rattle.std.proofs.lemmas.Iterator.{YieldsList, YieldsList-from_slice, YieldsList-from_zip, zips}
use Rattle.std.proofs.lemmas.Iterator.Consumers.{YieldsList-from_enumerate, YieldsList-turn, YieldsList-end}
use Rattle.std.proofs.lemmas.List.{get_or_default}
use Rattle.std.proofs.lemmas.List.FromFn.{length-enumerate_from, get_or-enumerate_from}
use Rattle.std.proofs.lemmas.Slice.Zip.{length-zip, get_or-zip}
use Rattle.rows.specs.Upto.{at}

abbrev Turn : Type 0
Turn = ℕ × (Bor ℕ × Bor ℕ)

abbrev steps : Enumerate (Zip (Iter ℕ) (Iter ℕ)) → Option Turn → Enumerate (Zip (Iter ℕ) (Iter ℕ)) → Type 0
steps = enumerate_steps (zips fronts fronts)

module _ (xs ys : List ℕ) (same : length ys ≡ length xs) (turns : List Turn) (s t u : Enumerate (Zip (Iter ℕ) (Iter ℕ)))
    (first : iter_rest (zip_first (enumerate_source s)) ≡ xs) (second : iter_rest (zip_second (enumerate_source s)) ≡ ys)
    (none : enumerate_count s ≡ 0) (so-far : Yields steps s turns t) (r : Option Turn) (step : steps t r u) where
  all : YieldsList steps (λ (p : Turn). (p.0, (p.1.0.now, p.1.1.now))) s (enumerate_from 0 (zip xs ys))
  all = YieldsList-from_enumerate (YieldsList-from_zip (YieldsList-from_slice xs first) (YieldsList-from_slice ys second)) none

  as-many : length (enumerate_from 0 (zip xs ys)) ≡ length xs
  as-many = omega (arith, length-enumerate_from 0 (zip xs ys), length-zip xs ys)

  pub paired : (p : Turn) → r ≡ Some p
      → (length turns < length xs) × (p.0 ≡ length turns) × (p.1.0.now ≡ at xs (length turns)) × (p.1.1.now ≡ at ys (length turns))
  paired p is =
      let i : ℕ = length turns in
      let a : ℕ = p.1.0.now in
      let b : ℕ = p.1.1.now in
      let turn = YieldsList-turn all turns t so-far r u p is step in
      let below : i < length xs = omega (arith, as-many) in
      let fits : i < length (zip xs ys) = omega (arith, length-enumerate_from 0 (zip xs ys)) in
      let both : ◌≡◌ {A = ℕ × (ℕ × ℕ)} (p.0, (a, b)) (0 + i, (get_or xs i a, get_or ys i b)) =
      turn.1 ∙ get_or-enumerate_from 0 (zip xs ys) i (p.0, (a, b)) fits ∙ ap (λ (q : ℕ × ℕ). (0 + i, q)) (get_or-zip xs ys i (a, b) below (omega arith)) in
      let place : p.0 ≡ 0 + i = ap (λ (q : ℕ × (ℕ × ℕ)). q.0) both in (
        below,
        omega arith,
        ap (λ (q : ℕ × (ℕ × ℕ)). q.1.0) both ∙ get_or_default xs i a 0 below,
        ap (λ (q : ℕ × (ℕ × ℕ)). q.1.1) both ∙ get_or_default ys i b 0 (omega arith),
      )

  pub paired-end : r ≡ None → length turns ≡ length xs
  paired-end is = (YieldsList-end all turns t so-far r u is step).1 ∙ as-many
