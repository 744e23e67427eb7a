-- What the promises cite.
pub mod Answer
pub mod Tick
-- Internal: what the theorems on the page of demands cite (proofs/Demands.antt).
pub mod Said
pub mod Listed
