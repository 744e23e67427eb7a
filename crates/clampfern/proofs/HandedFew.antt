-- How many rows lines can hand over: a text has 4,096 bytes, and the line of a slice takes 17 of them with its line feed, so that a byte counts the
-- rows. One idea: the lines of a text are no longer than the text. Assumes nothing.
--   rows_few   fewer rows than a byte can count
use mathlib.Core.Bool.{Bool, true, false, cond, ◌&&◌, ◌||◌}
use mathlib.Core.List.{List, [], ◌∷◌}
use mathlib.Core.Path.{◌≡◌, refl, ap, ◌∙◌}
use Prim.Native.Nat.{ℕ, suc, ◌+◌, ◌*◌, ◌≤◌}
use native.Mathlib.Omega.{arith}
use borrow.Author.Tests.{ltb-false}
use lib.Dec.{eqb, leb, ltb}
use lib.ListN.{length, length-append}
use Rattle.std.specs.Prelude.{Option, None, Some}
use Rattle.rows.specs.Lists.{sum_of}
use Rattle.rows.proofs.Never.{never}
use Rattle.model.specs.Limits.{text_most}
use Rattle.model.specs.Refusal.{Answer, given, refused, and_then}
use Rattle.model.specs.declared.Board.{Board}
use Rattle.model.specs.declared.Slice.{Slice}
use Rattle.text.specs.Hex.{lines_of, joined, bytes_of}
use Rattle.text.specs.Records.{board_form, counts_form, share_form, slice_form, line_size, is_a, field}
use Rattle.kernel.specs.Handed.{Entry, of-board, of-counts, of-share, of-slice, entry_of, record_says, bytes_say, form_says, has_job, line_says, as_board, Counts, as_counts, in_place, slices_from, Handed, counts_from, handed_from, handed_of}
use Rattle.clampfern.proofs.HandedBack.{bytes-length, form-size}
use Rattle.clampfern.proofs.Refusals.{after}

-- ---- the lines of a text, with their line feeds
abbrev size_in : List (List ℕ) → ℕ
size_in ls = sum_of (λ (l : List ℕ). suc (length l)) ls

lines-size : (text : List ℕ) → size_in (lines_of text) ≤ suc (length text)
unfolding lines_of
lines-size [] = omega arith
lines-size (b ∷ bs) = go (eqb b 10) (lines-size bs)
  where
    into : (ls : List (List ℕ)) → size_in ls ≤ suc (length bs) → size_in (joined b ls) ≤ suc (suc (length bs))
    into [] fits = omega arith
    into (l ∷ ls) fits = omega arith

    go : (t : Bool) → size_in (lines_of bs) ≤ suc (length bs) → size_in (cond t ([] ∷ lines_of bs) (joined b (lines_of bs))) ≤ suc (suc (length bs))
    go true fits = omega arith
    go false fits = into (lines_of bs) fits

-- ---- the line of a slice
slice-form : (r : List ℕ) (s : Slice) → entry_of r ≡ Some (of-slice s) → is_a slice_form r ≡ true
unfolding entry_of
slice-form r s e =
    go (is_a board_form r) (is_a counts_form r) (is_a share_form r) (is_a slice_form r) (eqb (field slice_form 1 r) 1 || eqb (field slice_form 1 r) 2) _ _ _ _ _ e
  where
    go : (p q t l k : Bool) (b : Board) (jobs slices job : ℕ) (row : Slice)
        → cond p (Some (of-board b)) (cond q (Some (of-counts jobs slices)) (cond t (Some (of-share job)) (cond (l && k) (Some (of-slice row)) None))) ≡ Some (of-slice s)
        → l ≡ true
    go true q t l k b jobs slices job row e = never (cc)
    go false true t l k b jobs slices job row e = never (cc)
    go false false true l k b jobs slices job row e = never (cc)
    go false false false true k b jobs slices job row e = refl
    go false false false false k b jobs slices job row e = never (cc)

slice-line : (n i : ℕ) (line : List ℕ) (s : Slice) → line_says n i line ≡ given (of-slice s) → suc (length line) ≡ line_size slice_form
slice-line n i line s e = spelled (bytes_of line) refl e
  where
    judged : (r : List ℕ) → bytes_of line ≡ Some r → (x : Entry) → entry_of r ≡ Some x → (t : Bool) → cond t (given x) (refused 9 i) ≡ given (of-slice s)
        → suc (length line) ≡ line_size slice_form
    judged r is x says true e =
        let same : x ≡ of-slice s = cc in
        omega (arith, bytes-length line r is, form-size slice_form r (slice-form r s (says ∙ ap (λ (y : Entry). Some y) same)))
    judged r is x says false e = never (cc)

    said : (r : List ℕ) → bytes_of line ≡ Some r → (m : Option Entry) → entry_of r ≡ m
        → and_then (record_says i m) (λ (x : Entry). cond (has_job n x) (given x) (refused 9 i)) ≡ given (of-slice s) → suc (length line) ≡ line_size slice_form
    said r is None says e = never (cc)
    said r is (Some x) says e = judged r is x says (has_job n x) e

    spelled : (m : Option (List ℕ)) → bytes_of line ≡ m
        → and_then (bytes_say i m) (λ (x : Entry). cond (has_job n x) (given x) (refused 9 i)) ≡ given (of-slice s) → suc (length line) ≡ line_size slice_form
    spelled None is e = never (cc)
    spelled (Some r) is e = said r is (entry_of r) refl e

-- What a line gives the table takes no more than its line.
here-fits : (c : Counts) (i : ℕ) (line : List ℕ) (e : Entry) (here : List Slice) → line_says c.jobs i line ≡ given e → in_place c i e ≡ given here
    → line_size slice_form * length here ≤ suc (length line)
here-fits c i line (of-board b) here says placed = never (cc)
here-fits c i line (of-counts jobs slices) here says placed = never (cc)
here-fits c i line (of-share job) here says placed = go (eqb i (job + 3)) placed
  where
    go : (t : Bool) → cond t (given []) (refused 10 i) ≡ given here → line_size slice_form * length here ≤ suc (length line)
    go true e = let same : [] ≡ here = cc in omega (arith, ap length same)
    go false e = never (cc)
here-fits c i line (of-slice s) here says placed = go (leb (c.jobs + 3) i && ltb i (c.jobs + c.slices + 3)) placed
  where
    go : (t : Bool) → cond t (given (s ∷ [])) (refused 10 i) ≡ given here → line_size slice_form * length here ≤ suc (length line)
    go true e = let same : s ∷ [] ≡ here = cc in omega (arith, ap length same, slice-line c.jobs i line s says)
    go false e = never (cc)

-- ---- all lines
abbrev Fits : ℕ → Answer (List Slice) → Type 0
Fits size (given rows) = line_size slice_form * length rows ≤ size
Fits size (refused number place) = Unit {0}

slices-fit : (c : Counts) (i : ℕ) (lines : List (List ℕ)) → Fits (size_in lines) (slices_from c i lines)
unfolding slices_from
slices-fit c i [] = go (ltb i (c.jobs + c.slices + 3))
  where
    go : (t : Bool) → Fits 0 (cond t (refused 10 i) (given []))
    go true = tt
    go false = omega arith
slices-fit c i (line ∷ lines) =
    let Most = Fits (size_in (line ∷ lines)) in
    let more = slices-fit c (i + 1) lines in
    after Most (λ _ _. tt) (line_says c.jobs i line) _ (λ e says. after Most (λ _ _. tt) (in_place c i e) _
    (λ here placed. after Most (λ _ _. tt) (slices_from c (i + 1) lines) _
    (λ rows is. let rest = rw is at more in omega (arith, here-fits c i line e here says placed, length-append here rows))))

abbrev Few : ℕ → Answer Handed → Type 0
Few size (given h) = line_size slice_form * length h.rows ≤ size
Few size (refused number place) = Unit {0}

lines_fit : (lines : List (List ℕ)) → Few (size_in lines) (handed_from lines)
unfolding handed_from counts_from
lines_fit [] = tt
lines_fit (line ∷ []) =
    let Most = Few (size_in (line ∷ [])) in
    after Most (λ _ _. tt) (form_says 1 line) _ (λ e _. after Most (λ _ _. tt) (as_board 1 e) _ (λ b _. tt))
lines_fit (line ∷ second ∷ lines) =
    let Most = Few (size_in (line ∷ second ∷ lines)) in
    after Most (λ _ _. tt) (form_says 1 line) _ (λ e _. after Most (λ _ _. tt) (as_board 1 e) _
    (λ b _. after Most (λ _ _. tt) (form_says 2 second) _ (λ f _. after Most (λ _ _. tt) (as_counts 2 f) _
    (λ c _. let more = slices-fit c 3 lines in
    after Most (λ _ _. tt) (slices_from c 3 lines) _ (λ rows is. let rest = rw is at more in omega arith)))))

pub rows_few : (text : List ℕ) (h : Handed) → handed_of text ≡ given h → length h.rows ≤ 255
unfolding handed_of
rows_few text h is = go (ltb text_most (length text)) refl is
  where
    go : (t : Bool) → ltb text_most (length text) ≡ t → cond t (refused 8 0) (handed_from (lines_of text)) ≡ given h → length h.rows ≤ 255
    go true t e = never (cc)
    go false t e = let fits = rw e at (lines_fit (lines_of text)) in omega (arith, lines-size text, ltb-false text_most (length text) t)
