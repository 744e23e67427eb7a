-- The guide to this crate's proofs, in reading order: laws of the definitions, one subject each. What the check does not find of a
-- function's proof is in the folder of its name.

-- Both sides of each line that a definition draws. It stands first, so that a definition that is made weaker is refused at an example.
pub mod BothSides
-- What is known of the room of a kind, so that it can change behind its name.
pub mod RoomLaws
-- Shares that do the jobs: as many as the jobs, and each does its own.
pub mod Splits
-- At most as many movers as cores.
pub mod Movers
-- Rows of a table of shares say the ticks that they were made of.
pub mod ShareRow
-- A job by which of its costs are 0, and jobs that are read back from columns.
pub mod Columns
-- A slice is read back from its number.
pub mod Packed
-- Each promise allows one result: no promise needs this; the laws of it serve the same theorems of the crates above.
pub mod Determined
