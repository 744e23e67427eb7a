pub mod Table
pub mod Moves
pub mod Fits
pub mod JobSlices
