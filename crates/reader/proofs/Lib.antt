-- What the check does not find of the proof that a function meets its contract is in the folder of its name. These are what such
-- proofs cite, in reading order, and the theorems that stand beside the promises.
--
-- The lines of a text, one by one.
pub mod Lines
-- The digits of a line, and the bytes that they spell.
mod Digits
-- A line that is cut, for a crate that reads other records.
pub mod Cuts
-- Which record those bytes are, by the numbers of the cut.
pub mod Forms
-- What the record of those bytes says.
mod Entries
-- What lines give, one behind the other.
pub mod Answers
-- The loop over the lines of jobs.
mod LineByLine
-- The columns that it fills.
mod Lent
-- Each promise allows one result alone. No promise needs it.
pub mod Determined
-- The input of the whole example, and texts that are refused, worked out. No promise needs them.
mod Examples
