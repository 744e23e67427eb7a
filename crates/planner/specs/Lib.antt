-- What the public promises cite, in reading order.
pub mod Promise
pub mod PlanMoves
-- The causes of the refusals, which the theorems of proofs/Demands.antt cite.
pub mod Listed
-- What private functions ask and promise.
pub mod InColumns
