-- What a cut line says of the bytes that the line spells. The idea: its digits are the line's where it spells some, two for each byte. Assumes
-- nothing.
use mathlib.Core.List.{List}
use mathlib.Core.Path.{◌≡◌, refl, sym, ap, ◌∙◌}
use Prim.Native.Nat.{ℕ, ◌+◌, ◌≤◌, ◌<◌}
use native.Mathlib.Omega.{arith}
use lib.ListN.{length, take, drop}
use Rattle.std.specs.Prelude.{Option, None, Some}
use Rattle.rows.specs.Lists.{All}
use Rattle.rows.proofs.Never.{never}
use Rattle.model.specs.Refusal.{Answer, given, and_then}
use Rattle.text.specs.Hex.{bytes_of, number_in}
use Rattle.text.specs.Records.{board_form, size_of, board_in}
use Rattle.reader.specs.Input.{bytes_say, line_says}
use Rattle.reader.specs.Cut.{line_length, line_in, head_size, cost_size, size_in, CutAt, board_by}
use Rattle.reader.specs.declared.Cut.{Cut}
use Rattle.reader.specs.declared.Entry.{Entry}
use Rattle.reader.proofs.Forms.{board-parts}
use Rattle.reader.proofs.Digits.{digits-fit, line-ends, record-paired, paired-small, paired-number}

-- The bytes that a line spells, with the numbers of its cut.
pub record Spelled (rest : List ℕ) (from : ℕ) (r : Cut) : Type 0 where
  pub bytes : List ℕ
  pub is : bytes_of (line_in rest) ≡ Some bytes
  pub size : Some (length bytes) ≡ r.size
  pub small : All (λ (b : ℕ). b < 256) bytes
  pub head : r.head ≡ number_in (take head_size bytes)
  pub a : r.a ≡ number_in (take cost_size (drop head_size bytes))
  pub b : r.b ≡ number_in (take cost_size (drop (head_size + cost_size) bytes))
  pub end : r.end ≡ from + line_length rest

module _ (rest : List ℕ) (from : ℕ) (r : Cut) (cut : CutAt rest from r) where
  pub cut-none : r.size ≡ None → bytes_of (line_in rest) ≡ None
  cut-none e = grind (arith, cut.size)

  -- The digits end within the text.
  pub cut_fits : r.end ≤ from + length rest
  cut_fits = omega (arith, cut.end, digits-fit rest)

  spelled : {bs : List ℕ} → bytes_of (line_in rest) ≡ Some bs → Spelled rest from r
  spelled {bs} is =
      let p = record-paired rest is in
      record {
        bytes = bs;
        is = is;
        size = sym (cut.size ∙ ap size_in is);
        small = paired-small p;
        head = cut.head ∙ paired-number p head_size 0;
        a = cut.a ∙ paired-number p cost_size head_size;
        b = cut.b ∙ paired-number p cost_size (head_size + cost_size);
        end = cut.end ∙ ap (λ (n : ℕ). from + n) (sym (line-ends rest is));
      }

  pub cut-spelled : {n : ℕ} → r.size ≡ Some n → Spelled rest from r
  cut-spelled e = go (bytes_of (line_in rest)) refl (sym cut.size ∙ e)
    where
      go : {n : ℕ} (m : Option (List ℕ)) → bytes_of (line_in rest) ≡ m → size_in m ≡ Some n → Spelled rest from r
      go None is e = never (cc)
      go (Some bs) is e = spelled is

  -- A line that gives something ends where its digits do.
  pub cut-ends : {A : Type 0} (i : ℕ) (f : Entry → Answer A) {x : A} → given x ≡ and_then (line_says i (line_in rest)) f → r.end ≡ from + line_length rest
  cut-ends i f {x} e = go (bytes_of (line_in rest)) refl e
    where
      go : (m : Option (List ℕ)) → bytes_of (line_in rest) ≡ m → given x ≡ and_then (bytes_say i m) f → r.end ≡ from + line_length rest
      go None is e = never (cc)
      go (Some bs) is e = (spelled is).end

-- The board of a line that spells a board's record.
pub spelled-board : {rest : List ℕ} {from : ℕ} {r : Cut} (s : Spelled rest from r) → length s.bytes ≡ size_of board_form → board_by r ≡ board_in s.bytes
spelled-board s e = rw (s.head, s.a) (sym (board-parts s.bytes e s.small))
