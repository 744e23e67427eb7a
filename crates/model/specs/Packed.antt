-- A slice as one number, in which the calls between our crates pass the table: its job, its kind as a text writes it, its core, its start and
-- its length, from the lowest byte up.
--   kind_number   the number of a kind in a text
--   pack_of       the number of a slice
--   kind_of       the kind of its number in a text
--   slice_in      the slice of a number
--   slices_in     the slices of a column of numbers
-- A slice whose fields fit the bytes that the record has for them is the slice of its number (proofs/Packed.antt).
-- Assumes nothing.
use Rattle.std.specs.Prelude.{cond, List, ℕ, ◌+◌, ◌*◌, ◌/◌, ◌%◌, eqb}
use Rattle.rows.specs.Upto.{upto, at}
use Rattle.model.specs.Board.{on}
use Rattle.model.specs.declared.Kind.{Kind}
use Rattle.model.specs.declared.Kind.TheVariants.{First, Second}
use Rattle.model.specs.declared.Slice.{Slice}

abbrev pub kind_number : Kind → ℕ
kind_number kind = on kind 1 2

unfoldable pub pack_of : Slice → ℕ
pack_of s = s.job + 256 * kind_number s.kind + 65536 * s.core + 16777216 * s.start + 1099511627776 * s.length

abbrev pub kind_of : ℕ → Kind
kind_of number = cond (eqb number 2) Second First

unfoldable pub slice_in : ℕ → Slice
slice_in x =
    record {
      job = x % 256;
      kind = kind_of (x / 256 % 256);
      core = x / 65536 % 256;
      start = x / 16777216 % 65536;
      length = x / 1099511627776 % 65536;
    }

abbrev pub slices_in : ℕ → List ℕ → List Slice
slices_in n column = upto n (λ i. slice_in (at column i))
