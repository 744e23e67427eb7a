-- `split::share_out` meets its contract: the shares stand in the first rows of columns of zeros. Assumes nothing.
use native.Mathlib.Omega.{arith}
use borrow.Author.Rules.{rules}
use Rattle.split.proofs.Answers.{answers_shares}
use Rattle.split.proofs.share_out.Goals as goal

pub returns : goal.returns
returns c = answers_shares _ _ _ c.args.n c.args.first.now c.args.second.now (omega arith) (omega arith) _ _ (search rules) (search rules) c.in_ok-split_legal.ensures
