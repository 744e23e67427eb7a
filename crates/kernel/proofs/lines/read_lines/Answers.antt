-- `kernel::lines::read_lines` meets its contract: a text that is too long or empty is refused, the first line has to be a board's, and the lines
-- behind it are `read_counts`'. Assumes nothing.
use mathlib.Core.List.{List}
use mathlib.Core.Path.{◌≡◌, refl}
use Prim.Native.Nat.{ℕ, ◌+◌, ◌≤◌, ◌<◌}
use native.Mathlib.Omega.{arith}
use Rattle.std.proofs.lemmas.Grind.{common_steps}
use lib.ListN.{length, drop}
use Rattle.model.specs.Limits.{text_most}
use Rattle.std.specs.Prelude.{Result}
use Rattle.std.proofs.lemmas.Result.{err_from_is_err_and}
use Rattle.model.specs.Refusal.{refused, and_then}
use Rattle.model.specs.declared.Board.{Board}
use Rattle.model.specs.declared.Refusal.{Refusal}
use Rattle.text.specs.Hex.{lines_of}
use Rattle.reader.specs.Cut.{line_length, CutAt}
use Rattle.reader.specs.declared.Cut.{Cut}
use Rattle.reader.proofs.Cuts.{cut_fits}
use Rattle.kernel.specs.Handed.{Entry, as_board, counts_from, handed_of}
use Rattle.kernel.specs.Reading.{says_entry, says_line, SaysCut}
use Rattle.kernel.specs.declared.lines.Said.{Said}
use Rattle.kernel.specs.declared.lines.Said.TheVariants.{OfBoard, OfCounts, OfShare, OfSlice}
use Rattle.kernel.proofs.Heads.{given-ends, too_long, empty, after-board}
use Rattle.kernel.proofs.Tables.{hands-refused, hands-as}
use Rattle.kernel.proofs.lines.read_lines.Goals as goal

-- What the first line says decides, and then the lines behind it.
said : (text : List ℕ) {cut : Cut} {r : Result Said Refusal} → length text ≤ text_most → 0 < length text → CutAt text 0 cut → SaysCut cut 1 r
    → (end : ℕ) → end ≡ 0 + line_length text
    → handed_of text ≡ and_then (says_line r) (λ (e : Entry). and_then (as_board 1 e) (λ (b : Board). counts_from b (lines_of (drop (end + 1) text))))
said text most some cuts says end e = rw (says.is _ _ cuts) (after-board text most some end e)

pub returns-then-lines-gt-TEXT_MOST : goal.returns-then-lines-gt-TEXT_MOST
returns-then-lines-gt-TEXT_MOST c = hands-refused _ _ _ (too_long _ (omega arith))

pub returns-then-is_empty : goal.returns-then-is_empty
returns-then-is_empty c = hands-refused _ _ _ (empty _ (grind (arith, common_steps, c.is_empty.ensures)))

-- Any other line than a board's is refused here.
out-of-place : (r : Said) → ((b : Board) → r ≡ OfBoard b → ⊥) → as_board 1 (says_entry r) ≡ refused 10 1
out-of-place (OfBoard b) not = absurd (not b refl)
out-of-place (OfCounts a) not = refl
out-of-place (OfShare job) not = refl
out-of-place (OfSlice s) not = refl

pub returns-in_err-board : goal.returns-in_err-board
returns-in_err-board c =
    let p = err_from_is_err_and c.from_residual.result c.from_residual.ensures.1 in
    rw (p.1, p.2) (hands-refused _ _ _ (said c.args.lines.now (omega arith) (grind (arith, common_steps, c.is_empty.ensures)) c.cut_at-cut.ensures c.in_err-board.ensures _ refl))

pub returns-in-OfBoard : goal.returns-in-OfBoard
returns-in-OfBoard c =
    let says = rw c.in-OfBoard.is at c.in_ok-board.ensures in
    let ends = given-ends _ _ _ _ _ c.cut_at-cut.ensures (says.is _ _ c.cut_at-cut.ensures) in
    hands-as c.read_counts.ensures (said c.args.lines.now (omega arith) (grind (arith, common_steps, c.is_empty.ensures)) c.cut_at-cut.ensures says _ ends)

pub returns-in_default : goal.returns-in_default
returns-in_default c =
    hands-refused _ _ _
    (rw (out-of-place _ c.in_default.not-OfBoard) at
    (said c.args.lines.now (omega arith) (grind (arith, common_steps, c.is_empty.ensures)) c.cut_at-cut.ensures c.in_ok-board.ensures _ refl))

pub overflow_add-cut : goal.overflow_add-cut
overflow_add-cut c = omega (arith, cut_fits _ _ _ c.cut_at-cut.ensures)
