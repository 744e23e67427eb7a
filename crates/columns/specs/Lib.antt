-- What the public promise cites, in reading order.
pub mod Plan
pub mod Promise
-- What private functions ask and promise.
pub mod Packing
