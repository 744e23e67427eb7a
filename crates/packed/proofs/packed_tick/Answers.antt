-- `packed::packed_tick` meets its contract: where the rows are refused, so are the bytes, and else the board is asked. Assumes nothing.
use Rattle.std.proofs.lemmas.Result.{err_from_is_err_and}
use Rattle.packed.proofs.Parted.{asked_none, asked_beyond, asked_inside}
use Rattle.packed.proofs.packed_tick.Goals as goal

pub returns-in_err-answer : goal.returns-in_err-answer
returns-in_err-answer c =
    let a = c.args in
    let p = err_from_is_err_and c.from_residual.result c.from_residual.ensures.1 in
    rw (p.1, p.2) (asked_none a.tick a.kind a.core a.table.now _ _ c.in-Some.ensures _ _ c.in_err-answer.ensures)

pub returns-then-is_beyond : goal.returns-then-is_beyond
returns-then-is_beyond c =
    let a = c.args in
    asked_beyond a.tick a.kind a.core a.table.now _ _ c.in-Some.ensures _ c.board_in.ensures _ c.in_ok-answer.ensures c.if-is_beyond.ensures

pub returns : goal.returns
returns c =
    let a = c.args in
    asked_inside a.tick a.kind a.core a.table.now _ _ c.in-Some.ensures _ c.board_in.ensures _ c.in_ok-answer.ensures c.if-is_beyond.ensures
