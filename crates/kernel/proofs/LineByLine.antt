-- The turns of the loop over the lines behind the counts'. The idea: what the lines from here on give, put behind the rows so far, is what all lines
-- give; and a row comes only at a line behind the shares', so that there are no more rows than the counts say. Assumes nothing.
use mathlib.Core.Bool.{Bool, true, false, cond, ◌&&◌}
use mathlib.Core.List.{List, [], ◌∷◌, ◌++◌, map, map-append, append-nil}
use mathlib.Core.Path.{◌≡◌, refl, sym, ap, ◌∙◌}
use Prim.Native.Nat.{ℕ, ◌+◌, ◌-◌, ◌≤◌, ◌<◌}
use native.Mathlib.Omega.{arith}
use native.Mathlib.Numerals.{add-one}
use borrow.Author.Tests.{leb-true, ltb-true, lt-ltb, le-ltb}
use lib.Dec.{eqb, leb, ltb}
use lib.ListN.{length, take, drop, set, length-set, drop_of_length-le}
use lib.Seq.{take-suc-set}
use Rattle.rows.proofs.Never.{never}
use Rattle.model.specs.Packed.{pack_of}
use Rattle.model.specs.Refusal.{Answer, given, refused, and_then}
use Rattle.model.specs.declared.Slice.{Slice}
use Rattle.text.specs.Hex.{lines_of}
use Rattle.reader.specs.Cut.{line_length, line_in, CutAt}
use Rattle.reader.specs.declared.Cut.{Cut}
use Rattle.reader.proofs.Answers.{onto, onto-none, onto-more, and_then-assoc}
use Rattle.reader.proofs.Lines.{lines_of-at}
use Rattle.kernel.specs.Handed.{Entry, of-board, of-counts, of-share, of-slice, line_says, Counts, in_place, slices_from}
use Rattle.kernel.specs.Reading.{row_says}
use Rattle.kernel.proofs.Entries.{says-end}

-- A line that gives a row stands behind the shares', and is not one too many.
module _ (c : Counts) (i : ℕ) (s : Slice) where
  abbrev Behind : Type 0
  Behind = (c.jobs + 3 ≤ i) × (i < c.jobs + c.slices + 3)

  row-behind : (a : Answer Entry) → given (s ∷ []) ≡ and_then a (in_place c i) → Behind
  row-behind (given (of-board b)) e = never (cc)
  row-behind (given (of-counts jobs slices)) e = never (cc)
  row-behind (given (of-share job)) e = go (eqb i (job + 3)) e
    where
      go : (t : Bool) → given (s ∷ []) ≡ cond t (given []) (refused 10 i) → Behind
      go true e = never (cc)
      go false e = never (cc)
  row-behind (given (of-slice t)) e = go (leb (c.jobs + 3) i) (leb-true (c.jobs + 3) i) (ltb i (c.jobs + c.slices + 3)) (ltb-true i (c.jobs + c.slices + 3)) e
    where
      go : (p : Bool) → (p ≡ true → c.jobs + 3 ≤ i) → (q : Bool) → (q ≡ true → i < c.jobs + c.slices + 3)
          → given (s ∷ []) ≡ cond (p && q) (given (t ∷ [])) (refused 10 i) → Behind
      go true hp true hq e = (hp refl, hq refl)
      go true hp false hq e = never (cc)
      go false hp q hq e = never (cc)
  row-behind (refused k p) e = never (cc)

slices_from-line : (c : Counts) (i : ℕ) (line : List ℕ) (lines : List (List ℕ))
    → slices_from c i (line ∷ lines) ≡ and_then (row_says c i line) (λ (here : List Slice). and_then (slices_from c (i + 1) lines)
    (λ (rows : List Slice). given (here ++ rows)))
unfolding slices_from
slices_from-line c i line lines = and_then-assoc (line_says c.jobs i line) (in_place c i) _

-- What holds at every turn: the lines before `at` gave n rows, whose numbers are at the front of the column, and line i starts at `at`. The column
-- has room for `most`.
pub record Turn (text : List ℕ) (from : ℕ) (c : Counts) (most : ℕ) (column : List ℕ) (n i at : ℕ) : Type 0 where
  pub rows : List Slice
  pub full : length column ≡ most
  pub held : take n column ≡ map pack_of rows
  pub behind : n ≤ i - (c.jobs + 3)
  pub few : n ≤ c.slices
  pub line : i ≤ at + 3
  pub all : onto rows (slices_from c i (lines_of (drop at text))) ≡ slices_from c 3 (lines_of (drop from text))

pub turn-first : (text : List ℕ) (from : ℕ) (c : Counts) (column : List ℕ) → Turn text from c (length column) column 0 3 from
turn-first text from c column =
    record { rows = []; full = refl; held = refl; behind = omega arith; few = omega arith; line = omega arith; all = onto-none _ }

module _ (text : List ℕ) (from : ℕ) (c : Counts) (most : ℕ) (column : List ℕ) (n i at : ℕ) (turn : Turn text from c most column n i at) where
  -- Behind the last line.
  module _ (out : length text ≤ at) where
    last : onto turn.rows (cond (ltb i (c.jobs + c.slices + 3)) (refused 10 i) (given [])) ≡ slices_from c 3 (lines_of (drop from text))
    unfolding lines_of slices_from
    last = rw (drop_of_length-le text out) at turn.all

    pub turn-missing : i < c.jobs + c.slices + 3 → refused 10 i ≡ slices_from c 3 (lines_of (drop from text))
    turn-missing h = rw (lt-ltb _ _ h) at last

    pub turn_last : c.jobs + c.slices + 3 ≤ i → given turn.rows ≡ slices_from c 3 (lines_of (drop from text))
    turn_last h = ap given (sym (append-nil turn.rows)) ∙ (rw (le-ltb _ _ h) at last)

  -- The line here, by its cut.
  module _ (within : at < length text) (cut : Cut) (cuts : CutAt (drop at text) at cut) where
    abbrev here : List ℕ
    here = line_in (drop at text)

    first-line : (end : ℕ) → end ≡ at + line_length (drop at text)
        → onto turn.rows (and_then (row_says c i here) (λ (now : List Slice). and_then (slices_from c (i + 1) (lines_of (drop (end + 1) text)))
        (λ (rows : List Slice). given (now ++ rows))))
        ≡ slices_from c 3 (lines_of (drop from text))
    first-line end e = rw (lines_of-at text at within end e, slices_from-line c i here (lines_of (drop (end + 1) text))) at turn.all

    -- One that is refused decides.
    pub turn-refused : (k p : ℕ) → refused k p ≡ row_says c i here → refused k p ≡ slices_from c 3 (lines_of (drop from text))
    turn-refused k p h = rw (sym h) at (first-line (at + line_length (drop at text)) refl)

    module _ (now : List Slice) (h : given now ≡ row_says c i here) where
      ends : cut.end ≡ at + line_length (drop at text)
      ends = says-end i (drop at text) at cut cuts (λ e. let no : given now ≡ refused 8 i = rw e at h in never (cc))

      behind-here : onto (turn.rows ++ now) (slices_from c (i + 1) (lines_of (drop (cut.end + 1) text))) ≡ slices_from c 3 (lines_of (drop from text))
      behind-here = sym (onto-more turn.rows now (slices_from c (i + 1) (lines_of (drop (cut.end + 1) text)))) ∙ (rw (sym h) at (first-line cut.end ends))

    -- One that gives nothing.
    pub turn-nothing : given [] ≡ row_says c i here → Turn text from c most column n (i + 1) (cut.end + 1)
    turn-nothing h =
        record {
          rows = turn.rows;
          full = turn.full;
          held = turn.held;
          behind = omega (arith, turn.behind);
          few = turn.few;
          line = omega (arith, turn.line, cuts.end);
          all = rw append-nil at (behind-here [] h);
        }

    module _ (s : Slice) (h : given (s ∷ []) ≡ row_says c i here) where
      pub turn-room : n < c.slices
      turn-room = let b = row-behind c i s (line_says c.jobs i here) h in omega (arith, turn.behind, b.0, b.1)

      -- One that gives a row.
      pub turn-row : c.slices ≤ most → Turn text from c most (set column n (pack_of s)) (n + 1) (i + 1) (cut.end + 1)
      turn-row room =
          record {
            rows = turn.rows ++ (s ∷ []);
            full = length-set column n (pack_of s) ∙ turn.full;
            held = rw (add-one n, take-suc-set column n (pack_of s) (omega (arith, turn.full, turn-room)), turn.held, map-append pack_of turn.rows (s ∷ []));
            behind = omega (arith, turn.behind, (row-behind c i s (line_says c.jobs i here) h).0);
            few = omega (arith, turn-room);
            line = omega (arith, turn.line, cuts.end);
            all = behind-here (s ∷ []) h;
          }
