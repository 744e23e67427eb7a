-- What a line says, by the numbers of its cut. The idea: the tests of `entry_of` are those of the code, and where one holds the fields of the record
-- are the numbers'. Assumes nothing.
use mathlib.Core.Bool.{Bool, true, false, cond, ◌&&◌}
use mathlib.Core.List.{List}
use mathlib.Core.Path.{◌≡◌, refl, ap}
use Prim.Native.Nat.{ℕ, ◌/◌, ◌%◌}
use native.Mathlib.Omega.{arith}
use borrow.Author.Tests.{eqb-true}
use lib.Dec.{eqb}
use lib.ListN.{length}
use lib.Seq.{drop-drop}
use Rattle.std.specs.Prelude.{Option, None, Some}
use Rattle.model.specs.Refusal.{refused}
use Rattle.text.specs.Hex.{bytes_of}
use Rattle.text.specs.Records.{Form, board_form, job_form, size_of, field}
use Rattle.reader.specs.Input.{entry_job, job_in, entry_of, record_says, line_says}
use Rattle.reader.specs.Cut.{line_in, CutAt}
use Rattle.reader.specs.Reader.{entry_by, size_says, cut_says}
use Rattle.reader.specs.declared.Cut.{Cut}
use Rattle.reader.specs.declared.Entry.TheVariants.{OfBoard}
use Rattle.reader.proofs.Cuts.{Spelled, cut-none, cut-spelled, spelled-board}
use Rattle.reader.proofs.Forms.{is_a-by, head-parts}

-- What is asked only where a test holds.
where_true : {A : Type 0} (t : Bool) {x y z w : A} → (t ≡ true → x ≡ y) → z ≡ w → cond t x z ≡ cond t y w
where_true true e f = e refl
where_true false e f = f

both : (p q : Bool) → p && q ≡ true → q ≡ true
both p q e = grind arith

module _ {rest : List ℕ} {from : ℕ} {cut : Cut} (s : Spelled rest from cut) where
  -- The code's test of a form.
  abbrev tested : Form → Bool
  tested f = eqb (cut.head / 256) f.tag && eqb (length s.bytes) (size_of f)

  sized : (f : Form) → tested f ≡ true → length s.bytes ≡ size_of f
  sized f e = eqb-true _ _ (both _ _ e)

  entry-by : entry_by cut (length s.bytes) ≡ entry_of s.bytes
  unfolding entry_of
  entry-by =
      rw (is_a-by board_form s.bytes s.small (omega arith), is_a-by job_form s.bytes s.small (omega arith), ← s.head)
      (where_true (tested board_form) (λ e. ap (λ b. Some (OfBoard b)) (spelled-board s (sized board_form e)))
      (where_true (tested job_form) {z = None} (λ e. job (sized job_form e)) refl))
    where
      job : length s.bytes ≡ size_of job_form
          → entry_job (job_in (cut.head % 256) cut.a cut.b) ≡ entry_job (job_in (field job_form 0 s.bytes) (field job_form 1 s.bytes) (field job_form 2 s.bytes))
      job e =
          let allowed : cut.head % 256 ≡ field job_form 0 s.bytes = rw s.head (head-parts s.bytes s.small (omega arith)).1 in
          rw (allowed, s.a, s.b, drop-drop 1 1 s.bytes, drop-drop 4 2 s.bytes)

-- What a line says, by its bytes.
pub line_says-none : (i : ℕ) (line : List ℕ) → bytes_of line ≡ None → line_says i line ≡ refused 8 i
line_says-none i line e = rw e

pub line_says-record : (i : ℕ) (line bytes : List ℕ) → bytes_of line ≡ Some bytes → line_says i line ≡ record_says i (entry_of bytes)
line_says-record i line bytes e = rw e

-- What every line says of which the cut is.
pub cut-says : (i : ℕ) {rest : List ℕ} {from : ℕ} {cut : Cut} → CutAt rest from cut → cut_says i cut ≡ line_says i (line_in rest)
cut-says i {rest} {from} {cut} at = go cut.size refl
  where
    go : (m : Option ℕ) → cut.size ≡ m → size_says i cut m ≡ line_says i (line_in rest)
    go None e = rw (cut-none rest from cut at e)
    go (Some n) e =
        let s = cut-spelled rest from cut at e in
        let f : n ≡ length s.bytes = cc s.size in
        rw (f, s.is) (ap (record_says i) (entry-by s))
