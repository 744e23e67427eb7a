-- The guide to the laws of this crate, in reading order. None of them knows of boards and jobs.

-- What each definition says, by examples. No crate cites it: it is `pub`, and first, because the checker takes public modules first, and a definition
-- that is made weaker is then refused at an example that it makes false.
pub mod BothSides
-- What is said of all elements, of every two, and sums: from element to element, and of two lists one behind the other.
pub mod Lists
-- Tests that are computed, and the facts that they tell.
pub mod Tells
-- The first element that a test holds of: its laws, and the walk that looks for it.
pub mod Lowest
-- Lists of a function's values, and a column that is filled from its start.
pub mod Upto
-- Elements that are taken with their numbers, and sums over the numbers below n: they serve theorems that no promise needs, on all moves of a plan,
-- on its cuts, on the closed form of the split and on what the handler names over a window.
pub mod Numbered
-- A walk over the first n of a list, and the table that it fills.
pub mod Walk
-- What two different constructors prove that are said to be one: anything.
pub mod Never
