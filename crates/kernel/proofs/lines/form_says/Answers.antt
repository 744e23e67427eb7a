-- `kernel::lines::form_says` meets its contract: at each answer, the tests so far tell which record the line is. Assumes nothing.
use mathlib.Core.Path.{◌≡◌, refl, sym, ◌∙◌}
use Prim.Native.Nat.{ℕ}
use Rattle.std.specs.Prelude.{Option, None, Some}
use Rattle.std.proofs.Common.{ok_or}
use Rattle.model.specs.declared.Refusal.TheVariants.{Record}
use Rattle.reader.proofs.Cuts.{cut-spelled}
use Rattle.kernel.specs.Handed.{record_says}
use Rattle.kernel.specs.Reading.{said_entry, says_line}
use Rattle.kernel.specs.declared.lines.Said.{Said}
use Rattle.kernel.proofs.Entries.{says-board, says-counts, says-share, says-slice, says_other}
use Rattle.kernel.proofs.lines.form_says.Goals as goal

-- What may be missing of a record.
said-or : (i : ℕ) (said : Option Said) → says_line (ok_or said (Record i)) ≡ record_says i (said_entry said)
said-or i None = refl
said-or i (Some said) = refl

pub returns-then-is_a : goal.returns-then-is_a
returns-then-is_a c =
    record {
      is = λ rest from at.
          rw c.board.ensures
          (sym (says-board _ rest from _ (cut-spelled rest from _ at c.in_ok-size.ensures.ok_part) _ c.in_ok-size.ensures.ok_part
          (sym c.is_a.ensures ∙ c.if-is_a.true)));
    }

pub returns-then-is_a-2 : goal.returns-then-is_a-2
returns-then-is_a-2 c =
    record {
      is = λ rest from at.
          sym (says-counts _ rest from _ (cut-spelled rest from _ at c.in_ok-size.ensures.ok_part) _ c.in_ok-size.ensures.ok_part
          (sym c.is_a.ensures ∙ c.if-is_a.false)
          (sym (rw c.from.ensures at c.is_a-2.ensures) ∙ c.if-is_a-2.true));
    }

pub returns-then-is_a-3 : goal.returns-then-is_a-3
returns-then-is_a-3 c =
    record {
      is = λ rest from at.
          sym (says-share _ rest from _ (cut-spelled rest from _ at c.in_ok-size.ensures.ok_part) _ c.in_ok-size.ensures.ok_part
          (sym c.is_a.ensures ∙ c.if-is_a.false)
          (sym (rw c.from.ensures at c.is_a-2.ensures) ∙ c.if-is_a-2.false)
          (sym (rw c.from-2.ensures at c.is_a-3.ensures) ∙ c.if-is_a-3.true));
    }

pub returns-then-is_a-4 : goal.returns-then-is_a-4
returns-then-is_a-4 c =
    record {
      is = λ rest from at.
          rw (c.ok_or-then-is_a-4.ensures.value, said-or c.args.i c.slice_says.result, c.slice_says.ensures)
          (sym (says-slice c.args.i rest from _ (cut-spelled rest from _ at c.in_ok-size.ensures.ok_part) _ c.in_ok-size.ensures.ok_part
          (sym c.is_a.ensures ∙ c.if-is_a.false)
          (sym (rw c.from.ensures at c.is_a-2.ensures) ∙ c.if-is_a-2.false)
          (sym (rw c.from-2.ensures at c.is_a-3.ensures) ∙ c.if-is_a-3.false)
          (sym (rw c.from-3.ensures at c.is_a-4.ensures) ∙ c.if-is_a-4.true)));
    }

pub returns : goal.returns
returns c =
    record {
      is = λ rest from at.
          sym (says_other _ rest from _ (cut-spelled rest from _ at c.in_ok-size.ensures.ok_part) _ c.in_ok-size.ensures.ok_part
          (sym c.is_a.ensures ∙ c.if-is_a.false)
          (sym (rw c.from.ensures at c.is_a-2.ensures) ∙ c.if-is_a-2.false)
          (sym (rw c.from-2.ensures at c.is_a-3.ensures) ∙ c.if-is_a-3.false)
          (sym (rw c.from-3.ensures at c.is_a-4.ensures) ∙ c.if-is_a-4.false));
    }
