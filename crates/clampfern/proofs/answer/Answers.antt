-- `clampfern::answer` meets its contract: an answer fits, so the C entry writes it whole. Assumes nothing.
use mathlib.Core.Path.{ap, ◌∙◌}
use mathlib.Core.List.{List, ◌++◌}
use Prim.Native.Nat.{ℕ}
use lib.ListN.{length}
use Rattle.text.specs.Output.{answer_most}
use Rattle.clampfern.specs.Answer.{answer_text}
use Rattle.clampfern.proofs.Entry.{entered-whole}
use Rattle.clampfern.proofs.Lines.{drop-replicate}
use Rattle.clampfern.proofs.Size.{answer-size}
use Rattle.clampfern.proofs.answer.Goals as goal

pub returns : goal.returns
returns c =
    let text = c.args.text.now in
    let whole = entered-whole c.clampfern_plan-size.ensures (answer-size text).1 in
    record {
      size = whole.0;
      bytes = whole.1 ∙ ap (λ (zs : List ℕ). answer_text text ++ zs) (drop-replicate (length (answer_text text)) answer_most 0);
    }
