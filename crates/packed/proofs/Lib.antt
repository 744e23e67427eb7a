-- The guide to this crate's proofs, in reading order. What the check does not find of a function's proof is in the folder of its name.

-- Both sides of each line that a definition draws. It stands first, so that a definition that is made weaker is refused at an example.
pub mod BothSides
-- The records of packed bytes, byte by byte.
mod Bytes
-- A walk over the rows, from the last to the first.
mod Looked
-- What packed bytes answer, by their parts.
mod Parted
-- What was packed is asked as the table is: the theorem that the bytes are for. No promise needs it but for the count of the bytes.
pub mod Same
-- Packed bytes that are stored, and what packing owes.
mod Stored
-- Each promise allows one result alone. No promise needs it.
pub mod Determined
