-- The guide to this crate's proofs, in reading order. What the check does not find of a function's proof is in the folder of its name.

-- Both sides of each line that the definitions draw. No crate cites it: it is `pub`, and first, because the checker takes public modules first, and a
-- definition that is made weaker is then refused at an example that it makes false.
pub mod BothSides
-- Open this first: over a window of the planner's table each job is named for its share, from the two promises and nothing else.
pub mod Window
--
-- What the tests of rows tell.
pub mod Tests
-- What the code finds by its iterators is what the definitions look for.
pub mod Found
-- How an answer runs through the checks of a table, and when exactly each refusal is given.
pub mod Judged
-- In a table that passes its checks one row at most is there; and a timetable passes.
pub mod OneRow
-- What runs at a tick on a core, by rows of which one at most is there.
pub mod AtTick
-- How often a job runs over a window: sums in another order.
pub mod Counting
-- What the handler answers where its table holds a timetable, whoever made it.
pub mod Tabled
-- A table of the planner holds a timetable of its shares, whichever call made it.
pub mod FromPlanner
-- The position goes round the window.
pub mod Round
-- The table of a worked set: that it can be run, and what runs at some of its places.
pub mod Examples
-- Each public promise leaves one result. No promise needs these theorems: they show that the promises say all.
pub mod Determined
