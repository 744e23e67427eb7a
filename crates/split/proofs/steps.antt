-- The steps, for the proofs of `steps`, in reading order. What is `pub` the proofs outside need too.
-- One job in numbers: its far end, and all between its ends, is whole and fits the window.
pub mod Number
-- One step: where its rule takes a row.
pub mod OneStep
-- The row that comes next: no movable row has a greater ratio, and none of lower number an equal one.
pub mod NextRow
-- Sums and facts of rows of which one is replaced, and how many can be moved.
pub mod RowSums
-- The steps, one by one: where they end, and what one that moves a row does.
pub mod StepByStep
-- Where they stop, by the far ends: what ties a refusal for room to its cause.
pub mod FarEnds
-- Rows without the near cost that they no longer need: the steps do not ask for it.
pub mod Bare
-- The row that comes next, by costs alone: the loop of `next_of`.
mod BestRow
-- The steps over columns: the loop of `steps`.
mod Runs
-- The steps from a kind that is over, and the answer after them: what `relieve` needs.
mod Relieving
