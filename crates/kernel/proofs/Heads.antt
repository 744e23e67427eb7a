-- The first two lines: what they give is what their entries give, and then the lines behind them. Assumes nothing.
use mathlib.Core.List.{List, [], ◌∷◌}
use mathlib.Core.Path.{◌≡◌, refl, ◌∙◌}
use Prim.Native.Nat.{ℕ, ◌+◌, ◌≤◌, ◌<◌}
use native.Mathlib.Omega.{arith}
use borrow.Author.Tests.{lt-ltb, le-ltb}
use lib.ListN.{length, drop, drop_of_length-le}
use Rattle.rows.proofs.Never.{never}
use Rattle.model.specs.Limits.{text_most}
use Rattle.model.specs.Refusal.{given, refused, and_then}
use Rattle.model.specs.declared.Board.{Board}
use Rattle.text.specs.Hex.{lines_of}
use Rattle.reader.specs.Cut.{line_length, line_in, CutAt}
use Rattle.reader.specs.declared.Cut.{Cut}
use Rattle.reader.proofs.Lines.{lines_of-at}
use Rattle.kernel.specs.Handed.{Entry, form_says, as_board, Counts, as_counts, counts_from, handed_from, handed_of}
use Rattle.kernel.specs.Reading.{table_from}
use Rattle.kernel.proofs.Entries.{says-end}

-- A line that says something ends where its digits do.
pub given-ends : (i : ℕ) (rest : List ℕ) (from : ℕ) (cut : Cut) (e : Entry) → CutAt rest from cut → given e ≡ form_says i (line_in rest)
    → cut.end ≡ from + line_length rest
given-ends i rest from cut e at says = says-end i rest from cut at (λ none. let no : given e ≡ refused 8 i = says ∙ none in never (cc))

-- The counts' line.
module _ (b : Board) (text : List ℕ) (from : ℕ) where
  pub no-counts : length text ≤ from → counts_from b (lines_of (drop from text)) ≡ refused 10 2
  unfolding lines_of counts_from
  no-counts out = rw (drop_of_length-le text out)

  pub after-counts : from < length text → (end : ℕ) → end ≡ from + line_length (drop from text) → counts_from b (lines_of (drop from text))
      ≡ and_then (form_says 2 (line_in (drop from text))) (λ (e : Entry). and_then (as_counts 2 e) (λ (c : Counts). table_from b c (lines_of (drop (end + 1) text))))
  unfolding counts_from
  after-counts within end e = rw (lines_of-at text from within end e)

-- The board's line.
module _ (text : List ℕ) where
  pub too_long : text_most < length text → handed_of text ≡ refused 8 0
  unfolding handed_of
  too_long h = rw (lt-ltb text_most (length text) h)

  pub after-board : length text ≤ text_most → 0 < length text → (end : ℕ) → end ≡ 0 + line_length text
      → handed_of text ≡ and_then (form_says 1 (line_in text)) (λ (e : Entry). and_then (as_board 1 e) (λ (b : Board). counts_from b (lines_of (drop (end + 1) text))))
  unfolding handed_of handed_from
  after-board most some end e = rw (le-ltb text_most (length text) most, lines_of-at text 0 some end e)

pub empty : (text : List ℕ) → length text ≡ 0 → handed_of text ≡ refused 10 1
unfolding handed_of handed_from lines_of
empty [] h = refl
empty (b ∷ bs) h = absurd (omega arith)
