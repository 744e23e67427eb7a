-- `text::writer::put_slices` meets its contract. The invariant: the text begins with the lines of the slices that were passed. Assumes nothing.
use Rattle.std.proofs.Common.{◌≡◌, ◌*◌, take, map}
use Rattle.model.specs.Packed.{slices_in}
use Rattle.text.specs.Hex.{text_of}
use Rattle.text.specs.Records.{slice_form, line_size}
use Rattle.text.specs.Output.{slice_record}
use Rattle.text.proofs.writer.put_slices.Given as goal

abbrev pub invariant-loop-i : goal.invariant-loop-i
invariant-loop-i l = take (line_size slice_form * l.i) l.text ≡ text_of (map slice_record (slices_in l.i l.slices))
