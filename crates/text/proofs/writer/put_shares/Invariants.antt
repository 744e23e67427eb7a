-- `text::writer::put_shares` meets its contract. The invariant: the text begins with the lines of the shares that were passed. Assumes nothing.
use Rattle.std.proofs.Common.{◌≡◌, ◌*◌, take, length}
use Rattle.model.specs.Columns.{shares_in}
use Rattle.text.specs.Hex.{text_of}
use Rattle.text.specs.Records.{share_form, line_size}
use Rattle.text.specs.Output.{share_records}
use Rattle.text.proofs.writer.put_shares.Given as goal

abbrev pub invariant-loop-job : goal.invariant-loop-job
invariant-loop-job l = take (line_size share_form * length l.yielded) l.text ≡ text_of (share_records 0 (shares_in (length l.yielded) l.first l.second))
