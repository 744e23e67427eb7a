-- `reader::cut_at` meets its contract: each number goes on where the one before it ends, so the numbers' digits are the line's, and two digits are a
-- byte where it spells some. Assumes nothing.
use mathlib.Core.List.{List}
use mathlib.Core.Path.{◌≡◌, ap, ◌∙◌}
use Prim.Native.Nat.{ℕ, ◌+◌, ◌-◌}
use native.Mathlib.Omega.{arith}
use lib.Dec.{eqb}
use lib.ListN.{length, take, drop, length-drop}
use lib.Seq.{drop-drop}
use Rattle.std.proofs.lemmas.Bool.Decides.{nat_tests}
use Rattle.reader.specs.Cut.{digits_in, hex_in, head_digits, cost_digits}
use Rattle.reader.proofs.Digits.{behind, behind-some, digits-fit, size-digits}
use Rattle.reader.proofs.cut_at.Goals as goal

-- An end is the start where there is no digit.
none : (from n : ℕ) → eqb (from + n) from ≡ eqb n 0
none from n = grind (arith, nat_tests)

pub returns : goal.returns
returns c =
    let text = c.args.text.now in
    let from = c.args.from in
    let r1 = behind-some head_digits (drop from text) c.number-head.result.1.now (rw c.behind.ensures at c.number-head.ensures.rest) in
    let r2 = behind-some cost_digits _ c.number-a.result.1.now c.number-a.ensures.rest in
    let r3 = behind-some cost_digits _ c.number-b.result.1.now c.number-b.ensures.rest in
    let all : c.behind_digits-rest.result.now ≡ behind (drop from text) = c.behind_digits-rest.ensures ∙ r3.1 ∙ r2.1 ∙ r1.1 in
    let end : c.max-end.result ≡ from + length (digits_in (drop from text)) = omega (arith, simp length-drop at (ap length all), digits-fit (drop from text), length-drop from text) in
    let digits : c.max-end.result - from ≡ length (digits_in (drop from text)) = omega arith in
    record {
      size = c.then_some.ensures ∙ rw (c.is_line.ensures, all, digits, end, none) (size-digits (drop from text));
      head = rw c.behind.ensures at c.number-head.ensures.value;
      a = c.number-a.ensures.value ∙ ap (λ (l : List ℕ). hex_in (take cost_digits l)) r1.0;
      b = c.number-b.ensures.value ∙ ap (λ (l : List ℕ). hex_in (take cost_digits l)) (r2.0 ∙ ap (drop cost_digits) r1.0 ∙ drop-drop cost_digits head_digits (digits_in (drop from text)));
      end = end;
    }
