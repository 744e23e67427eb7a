-- What a line says by its form, by the numbers of its cut. The idea: the tests of `entry_of` are the code's, and the numbers of a record's bytes are
-- its fields. Assumes nothing.
use mathlib.Core.Bool.{Bool, true, false, cond, ◌&&◌}
use mathlib.Core.List.{List, [], ◌∷◌}
use mathlib.Core.Path.{◌≡◌, refl, ap, ◌∙◌}
use Prim.Native.Nat.{ℕ, ◌+◌, ◌/◌, ◌%◌, ◌<◌}
use native.Mathlib.Omega.{arith}
use borrow.Author.Tests.{eqb-true}
use lib.Dec.{eqb}
use lib.ListN.{length, take, drop}
use Rattle.std.specs.Prelude.{Option, None, Some}
use Rattle.rows.specs.Lists.{All}
use Rattle.rows.proofs.Never.{never}
use Rattle.model.specs.Refusal.{given, refused}
use Rattle.model.specs.declared.Board.{Board}
use Rattle.text.specs.Hex.{number_from, number_in}
use Rattle.text.specs.Records.{Form, board_form, counts_form, share_form, slice_form, size_of, is_a, field}
use Rattle.reader.specs.Cut.{line_length, line_in, CutAt, board_by}
use Rattle.reader.specs.declared.Cut.{Cut}
use Rattle.reader.proofs.Cuts.{Spelled, cut-none, cut-spelled}
use Rattle.reader.proofs.Forms.{is_a-by, head-parts, board-parts}
use Rattle.packed.specs.Packed.{is_slice, slice_of}
use Rattle.kernel.specs.Handed.{of-board, of-counts, of-share, of-slice, entry_of, record_says, form_says}
use Rattle.kernel.specs.Reading.{slice_says}

-- ---- the fields of a record, by the numbers of its bytes
counts-parts : (bs : List ℕ) → length bs ≡ size_of counts_form → All (λ (b : ℕ). b < 256) bs
    → (field counts_form 0 bs ≡ number_in (take 2 bs) % 256) × (field counts_form 1 bs ≡ number_in (take 4 (drop 2 bs)) % 256)
unfolding number_from
counts-parts [] n small = absurd (omega arith)
counts-parts (t ∷ []) n small = absurd (omega arith)
counts-parts (t ∷ j ∷ []) n small = absurd (omega arith)
counts-parts (t ∷ j ∷ s ∷ x ∷ bs) n small = absurd (omega arith)
counts-parts (t ∷ j ∷ s ∷ []) n small =
    let j-small : j < 256 = small.1.0 in
    let s-small : s < 256 = small.1.1.0 in
    (omega arith, omega arith)

-- The kind is the high byte of the four behind the job.
record SliceParts (bs : List ℕ) (head a b : ℕ) : Type 0 where
  job : field slice_form 0 bs ≡ head % 256
  kind : field slice_form 1 bs ≡ a / 16777216
  core : field slice_form 2 bs ≡ a / 65536 % 256
  start : field slice_form 3 bs ≡ a % 65536
  length : field slice_form 4 bs ≡ b % 65536

slice-parts : (bs : List ℕ) → length bs ≡ size_of slice_form → All (λ (b : ℕ). b < 256) bs
    → SliceParts bs (number_in (take 2 bs)) (number_in (take 4 (drop 2 bs))) (number_in (take 4 (drop 6 bs)))
unfolding number_from
slice-parts [] n small = absurd (omega arith)
slice-parts (t ∷ []) n small = absurd (omega arith)
slice-parts (t ∷ j ∷ []) n small = absurd (omega arith)
slice-parts (t ∷ j ∷ k ∷ []) n small = absurd (omega arith)
slice-parts (t ∷ j ∷ k ∷ c ∷ []) n small = absurd (omega arith)
slice-parts (t ∷ j ∷ k ∷ c ∷ s1 ∷ []) n small = absurd (omega arith)
slice-parts (t ∷ j ∷ k ∷ c ∷ s1 ∷ s2 ∷ []) n small = absurd (omega arith)
slice-parts (t ∷ j ∷ k ∷ c ∷ s1 ∷ s2 ∷ l1 ∷ []) n small = absurd (omega arith)
slice-parts (t ∷ j ∷ k ∷ c ∷ s1 ∷ s2 ∷ l1 ∷ l2 ∷ x ∷ bs) n small = absurd (omega arith)
slice-parts (t ∷ j ∷ k ∷ c ∷ s1 ∷ s2 ∷ l1 ∷ l2 ∷ []) n small =
    let h1 : j < 256 = small.1.0 in
    let h2 : k < 256 = small.1.1.0 in
    let h3 : c < 256 = small.1.1.1.0 in
    let h4 : s1 < 256 = small.1.1.1.1.0 in
    let h5 : s2 < 256 = small.1.1.1.1.1.0 in
    let h6 : l1 < 256 = small.1.1.1.1.1.1.0 in
    let h7 : l2 < 256 = small.1.1.1.1.1.1.1.0 in
    record { job = omega arith; kind = omega arith; core = omega arith; start = omega arith; length = omega arith }

-- ---- what line i says, by its cut
-- The code's test of a form, of a line that spells so many bytes.
abbrev pub tested : Cut → ℕ → Form → Bool
tested cut size f = eqb (cut.head / 256) f.tag && eqb size (size_of f)

tested-size : (cut : Cut) (size : ℕ) (f : Form) → tested cut size f ≡ true → size ≡ size_of f
tested-size cut size f e = go (eqb (cut.head / 256) f.tag) e
  where
    go : (p : Bool) → p && eqb size (size_of f) ≡ true → size ≡ size_of f
    go true e = eqb-true size (size_of f) e
    go false e = never (cc)

module _ (i : ℕ) (rest : List ℕ) (from : ℕ) (cut : Cut) where
  pub says_none : CutAt rest from cut → cut.size ≡ None → form_says i (line_in rest) ≡ refused 8 i
  says_none at e = rw (cut-none rest from cut at e)

  -- A line that is not refused so ends where its digits do.
  pub says-end : CutAt rest from cut → (form_says i (line_in rest) ≡ refused 8 i → ⊥) → cut.end ≡ from + line_length rest
  says-end at not = go cut.size refl
    where
      go : (size : Option ℕ) → cut.size ≡ size → cut.end ≡ from + line_length rest
      go None e = absurd (not (says_none at e))
      go (Some n) e = (cut-spelled rest from cut at e).end

  module _ (s : Spelled rest from cut) (size : ℕ) (is-size : cut.size ≡ Some size) where
    long : length s.bytes ≡ size
    long = cc (s.size, is-size)

    is-tested : (f : Form) → 1 < size_of f → is_a f s.bytes ≡ tested cut size f
    is-tested f more = rw (s.head, ← long) (is_a-by f s.bytes s.small more)

    sized : (f : Form) → tested cut size f ≡ true → length s.bytes ≡ size_of f
    sized f t = long ∙ tested-size cut size f t

    pub says-board : tested cut size board_form ≡ true → form_says i (line_in rest) ≡ record_says i (Some (of-board (board_by cut)))
    unfolding entry_of
    says-board t =
        rw (s.is, is-tested board_form (omega arith), t, s.head, s.a)
        (ap (λ (b : Board). given (of-board b)) (board-parts s.bytes (sized board_form t) s.small))

    module _ (no-board : tested cut size board_form ≡ false) where
      pub says-counts : tested cut size counts_form ≡ true → form_says i (line_in rest) ≡ record_says i (Some (of-counts (cut.head % 256) (cut.a % 256)))
      unfolding entry_of
      says-counts t =
          let p = counts-parts s.bytes (sized counts_form t) s.small in
          rw (s.is, is-tested board_form (omega arith), is-tested counts_form (omega arith), no-board, t, s.head, s.a, p.0, p.1)

      module _ (no-counts : tested cut size counts_form ≡ false) where
        pub says-share : tested cut size share_form ≡ true → form_says i (line_in rest) ≡ record_says i (Some (of-share (cut.head % 256)))
        unfolding entry_of
        says-share t =
            let size = sized share_form t in
            let job = (head-parts s.bytes s.small (omega arith)).1 in
            rw (s.is, is-tested board_form (omega arith), is-tested counts_form (omega arith), is-tested share_form (omega arith), no-board, no-counts, t, s.head, job)

        module _ (no-share : tested cut size share_form ≡ false) where
          others : entry_of s.bytes ≡ cond (is_slice s.bytes) (Some (of-slice (slice_of s.bytes))) None
          unfolding entry_of
          others = rw (is-tested board_form (omega arith), is-tested counts_form (omega arith), is-tested share_form (omega arith), no-board, no-counts, no-share)

          pub says-slice : tested cut size slice_form ≡ true → form_says i (line_in rest) ≡ record_says i (slice_says cut)
          unfolding slice_says
          says-slice t =
              let p : SliceParts s.bytes cut.head cut.a cut.b = rw (s.head, s.a, s.b) (slice-parts s.bytes (sized slice_form t) s.small) in
              rw (s.is, others, is-tested slice_form (omega arith), t, p.job, p.kind, p.core, p.start, p.length)

          pub says_other : tested cut size slice_form ≡ false → form_says i (line_in rest) ≡ refused 9 i
          says_other t = rw (s.is, others, is-tested slice_form (omega arith), t)
