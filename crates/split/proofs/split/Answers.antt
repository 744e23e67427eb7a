-- `split::split` meets its contract: a set that passes the checks is split, any other is refused by them. Assumes nothing.
use Rattle.split.proofs.Promising.{promised_shares}
use Rattle.split.proofs.split.Goals as goal

pub returns : goal.returns
returns c = promised_shares _ _ _ _ c.in_ok-check.ensures c.share_out.ensures
