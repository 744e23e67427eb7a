-- What the promises cite: the packed form, what it answers, what packing promises.
pub mod Packed
-- Internal: what the functions that ask packed bytes promise each other.
pub mod Asking
