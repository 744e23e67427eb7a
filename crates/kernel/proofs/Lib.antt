-- The guide to this crate's proofs, in reading order. What the check does not find of a function's proof is in the
-- folder of its name, below that of its file.

-- Both sides of each line that a definition draws. It stands first, so that a definition that is made weaker is refused at an example.
pub mod BothSides
-- What a line says, by the numbers of its cut.
mod Entries
-- The first two lines.
mod Heads
-- The loop over the lines behind them.
mod LineByLine
-- What the reader's answer hands on.
mod Tables
-- Each promise allows one result alone. No promise needs it.
pub mod Determined
