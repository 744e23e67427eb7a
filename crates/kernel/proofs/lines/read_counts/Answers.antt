-- `kernel::lines::read_counts` meets its contract: the line here has to be the counts', and the lines behind it are `read_rows`'. Assumes nothing.
use mathlib.Core.List.{List}
use mathlib.Core.Path.{◌≡◌, refl}
use Prim.Native.Nat.{ℕ, ◌+◌, ◌<◌}
use native.Mathlib.Omega.{arith}
use lib.ListN.{length, drop, length-drop}
use Rattle.std.specs.Prelude.{Result}
use Rattle.std.proofs.lemmas.Result.{err_from_is_err_and}
use Rattle.model.specs.Refusal.{refused, and_then}
use Rattle.model.specs.declared.Board.{Board}
use Rattle.model.specs.declared.Refusal.{Refusal}
use Rattle.text.specs.Hex.{lines_of}
use Rattle.reader.specs.Cut.{line_length, CutAt}
use Rattle.reader.specs.declared.Cut.{Cut}
use Rattle.reader.proofs.Cuts.{cut_fits}
use Rattle.kernel.specs.Handed.{Entry, Counts, as_counts, counts_from}
use Rattle.kernel.specs.Reading.{says_entry, says_line, SaysCut, table_from}
use Rattle.kernel.specs.declared.lines.Announced.{Announced}
use Rattle.kernel.specs.declared.lines.Said.{Said}
use Rattle.kernel.specs.declared.lines.Said.TheVariants.{OfBoard, OfCounts, OfShare, OfSlice}
use Rattle.kernel.proofs.Heads.{given-ends, no-counts, after-counts}
use Rattle.kernel.proofs.Tables.{hands-refused, hands-as}
use Rattle.kernel.proofs.lines.read_counts.Goals as goal

-- What the line here says decides, and then the lines behind it.
said : (b : Board) (text : List ℕ) (from : ℕ) {cut : Cut} {r : Result Said Refusal} → from < length text → CutAt (drop from text) from cut → SaysCut cut 2 r
    → (end : ℕ) → end ≡ from + line_length (drop from text)
    → counts_from b (lines_of (drop from text))
    ≡ and_then (says_line r) (λ (e : Entry). and_then (as_counts 2 e) (λ (n : Counts). table_from b n (lines_of (drop (end + 1) text))))
said b text from within cuts says end e = rw (says.is _ _ cuts) (after-counts b text from within end e)

pub returns-then-lines-from : goal.returns-then-lines-from
returns-then-lines-from c = hands-refused _ _ _ (no-counts _ c.args.lines.now c.args.from (omega arith))

-- Any other line than the counts' is refused here.
out-of-place : (r : Said) → ((a : Announced) → r ≡ OfCounts a → ⊥) → as_counts 2 (says_entry r) ≡ refused 10 2
out-of-place (OfBoard b) not = refl
out-of-place (OfCounts a) not = absurd (not a refl)
out-of-place (OfShare job) not = refl
out-of-place (OfSlice s) not = refl

pub returns-in_err-announced : goal.returns-in_err-announced
returns-in_err-announced c =
    let p = err_from_is_err_and c.from_residual.result c.from_residual.ensures.1 in
    rw (p.1, p.2)
    (hands-refused _ _ _ (said c.args.board c.args.lines.now c.args.from (omega arith) c.cut_at-cut.ensures c.in_err-announced.ensures _ refl))

pub returns-in-OfCounts : goal.returns-in-OfCounts
returns-in-OfCounts c =
    let says = rw c.in-OfCounts.is at c.in_ok-announced.ensures in
    let ends = given-ends _ _ _ _ _ c.cut_at-cut.ensures (says.is _ _ c.cut_at-cut.ensures) in
    hands-as c.read_rows.ensures (said c.args.board c.args.lines.now c.args.from (omega arith) c.cut_at-cut.ensures says _ ends)

pub returns-in_default : goal.returns-in_default
returns-in_default c =
    hands-refused _ _ _
    (rw (out-of-place _ c.in_default.not-OfCounts) at
    (said c.args.board c.args.lines.now c.args.from (omega arith) c.cut_at-cut.ensures c.in_ok-announced.ensures _ refl))

pub overflow_add-cut : goal.overflow_add-cut
overflow_add-cut c = omega (arith, cut_fits _ _ _ c.cut_at-cut.ensures, length-drop c.args.from c.args.lines.now)
