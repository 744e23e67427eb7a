-- `handler::check_table` meets its contract: a board that is refused is refused whatever comes after. Assumes nothing.
use Rattle.std.proofs.lemmas.Result.{err_from_is_err_and}
use Rattle.legal.proofs.CheckByCheck.{board-refused}
use Rattle.handler.specs.Check.{check_of}
use Rattle.handler.proofs.check_table.Goals as goal

pub returns-in_err-check_board : goal.returns-in_err-check_board
unfolding check_of
returns-in_err-check_board c =
    let p = err_from_is_err_and c.from_residual.result c.from_residual.ensures.1 in
    rw (p.1, p.2) (board-refused _ tt _ _ _ c.in_err-check_board.ensures)
