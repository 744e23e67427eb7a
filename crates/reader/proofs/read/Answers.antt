-- `reader::read` meets its contract: a text that is too long or empty is refused, the first line has to be a board's, and the lines behind it
-- are `read_jobs`'. Assumes nothing.
use mathlib.Core.List.{List, [], ◌∷◌}
use mathlib.Core.Path.{◌≡◌, refl, ap}
use Prim.Native.Nat.{ℕ, ◌+◌, ◌≤◌, ◌<◌}
use native.Mathlib.Omega.{arith}
use borrow.Author.Tests.{lt-ltb, le-ltb, eqb-true, eqb-false}
use lib.ListN.{length, drop}
use Rattle.std.proofs.Common.{rules, Err}
use Rattle.model.specs.Limits.{text_most}
use Rattle.model.specs.Refusal.{refused, and_then}
use Rattle.model.specs.declared.Board.{Board}
use Rattle.text.specs.Hex.{lines_of}
use Rattle.reader.specs.Input.{line_says, as_board, input_from, input_of}
use Rattle.reader.specs.Cut.{line_length, line_in}
use Rattle.reader.specs.Reader.{set_from}
use Rattle.reader.specs.declared.Entry.{Entry}
use Rattle.reader.proofs.Cuts.{cut_fits, cut-ends}
use Rattle.reader.proofs.Entries.{cut-says}
use Rattle.reader.proofs.Lent.{gives-refused, gives_as}
use Rattle.reader.proofs.Lines.{lines_of-at}
use Rattle.reader.proofs.read.Goals as goal

long : (text : List ℕ) → text_most < length text → input_of text ≡ refused 8 0
unfolding input_of
long text h = rw (lt-ltb text_most (length text) h)

empty : (text : List ℕ) → length text ≡ 0 → input_of text ≡ refused 10 1
unfolding input_of input_from lines_of
empty [] h = refl
empty (b ∷ bs) h = absurd (omega arith)

-- The first line decides where it is no board's, and otherwise the others do.
after : (text : List ℕ) (end : ℕ) → length text ≤ text_most → (length text ≡ 0 → ⊥) → end ≡ 0 + line_length text
    → input_of text ≡ and_then (line_says 1 (line_in text)) (λ (e : Entry). and_then (as_board 1 e) (λ (b : Board). set_from b (lines_of (drop (end + 1) text))))
unfolding input_of input_from
after text end most some e = rw (le-ltb text_most (length text) most, lines_of-at text 0 (omega (arith, some)) end e)

pub overflow_add-cut : goal.overflow_add-cut
overflow_add-cut c = omega (arith, cut_fits _ _ _ c.cut_at-cut.ensures)

pub returns-then-text-gt-TEXT_MOST : goal.returns-then-text-gt-TEXT_MOST
returns-then-text-gt-TEXT_MOST c = gives-refused (long _ (omega arith))

pub returns-then-is_empty : goal.returns-then-is_empty
returns-then-is_empty c = gives-refused (empty _ (eqb-true _ _ (cc)))

pub returns-in_err-line_says : goal.returns-in_err-line_says
returns-in_err-line_says c =
    let text = c.args.text.now in
    let said = rw (c.in_err-line_says.was, cut-says 1 c.cut_at-cut.ensures) at c.line_says.ensures in
    let some = eqb-false (length text) 0 (cc) in
    let r : c.from_residual.result ≡ Err c.in_err-line_says.field-0.0 = search rules in
    rw r (gives-refused (rw (← said) at (after text _ (omega arith) some refl)))

pub returns-in-OfJob : goal.returns-in-OfJob
returns-in-OfJob c =
    let text = c.args.text.now in
    let said = rw (c.in_ok-line_says.was, c.in-OfJob.is, cut-says 1 c.cut_at-cut.ensures) at c.line_says.ensures in
    let some = eqb-false (length text) 0 (cc) in
    gives-refused (rw (← said) at (after text _ (omega arith) some refl))

pub returns-in-OfBoard : goal.returns-in-OfBoard
returns-in-OfBoard c =
    let text = c.args.text.now in
    let said = rw (c.in_ok-line_says.was, c.in-OfBoard.is, cut-says 1 c.cut_at-cut.ensures) at c.line_says.ensures in
    let some = eqb-false (length text) 0 (cc) in
    let ends = cut-ends _ _ _ c.cut_at-cut.ensures 1 (as_board 1) (ap (λ a. and_then a (as_board 1)) said) in
    gives_as c.read_jobs.ensures (rw (← said) at (after text _ (omega arith) some ends))
