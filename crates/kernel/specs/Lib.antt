-- What the promises cite.
pub mod Handed
-- Internal: what the functions that read the lines promise each other.
pub mod Reading
