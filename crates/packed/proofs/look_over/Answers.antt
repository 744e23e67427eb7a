-- `packed::look_over` meets its contract: with the row that is taken, the rows so far are one more. Assumes nothing.
use mathlib.Core.Path.{◌≡◌, ◌∙◌}
use Rattle.std.proofs.Common.{rules, [], ◌+◌}
use Rattle.std.specs.Prelude.{Some}
use Rattle.std.specs.Option.{option_or}
use Rattle.std.proofs.lemmas.List.{take_more}
use lib.ListN.{take, get_or}
use Rattle.rows.specs.Upto.{at}
use Rattle.packed.proofs.Looked.{all_more, job_here, job_before}
use Rattle.packed.proofs.look_over.Goals as goal
use Rattle.packed.proofs.look_over.Goals.{then-is_there, else-is_there}

pub loop-row-preserved : goal.loop-row-preserved
loop-row-preserved c =
    let a = c.args in
    let rows = a.rows.now in
    let i = c.loop-row.row-index in
    let row = get_or rows i [] in
    let so_far = c.loop-row.answer in
    let taken = take_more rows i [] (search rules) in (
      all_more (take i rows) (take (i + 1) rows) row taken c.loop-row.invariant.0 (search rules),
      elim c.if-is_there.branch [
        | then-is_there w ↦
            let answer : c.if-is_there.answer ≡ option_or so_far (Some (at row 1)) = search rules in
            answer ∙ job_here (take i rows) (take (i + 1) rows) row taken a.tick a.kind a.core so_far c.loop-row.invariant.1 (search rules) (search rules)
        | else-is_there w ↦
            let answer : c.if-is_there.answer ≡ so_far = search rules in
            answer ∙ job_before (take i rows) (take (i + 1) rows) row taken a.tick a.kind a.core so_far c.loop-row.invariant.1 (search rules)
      ],
    )
