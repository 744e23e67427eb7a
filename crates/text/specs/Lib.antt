-- What the promises cite, in reading order: lines and digits, the records, what is written.
pub mod Hex
pub mod Records
pub mod Output
