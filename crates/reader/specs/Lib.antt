-- What the promises cite, in reading order: what is read, how any line is cut. What lines, digits and records are is crate text's.
pub mod Input
pub mod Cut
-- Internal: what the reader's functions promise each other.
pub mod Reader
