-- What the check does not find of the proof that a function meets its contract is in the folder of its name, below that of its file.
-- These are what such proofs cite, in reading order, and the theorems that stand beside the promises.
--
-- The digits that are written are those of the format, and behind them a line ends.
pub mod Digits
-- The text of a plan, which is stored line by line.
pub mod PlanText
-- Bytes that are stored one behind the other. The crate of packed tables alone cites it.
pub mod Stores
-- What is written is read back: what a text was written from. No promise needs it; clampfern's page of demands does.
pub mod RoundTrip
-- Each promise allows one result alone. No promise needs it.
pub mod Determined
-- The output of the whole example, worked out. No promise needs it.
mod Examples
