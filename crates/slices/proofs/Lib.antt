-- The guide to this crate's proofs, in reading order. What the check does not find of a function's proof is in the folder of its name.

-- Both sides of each line that a theorem's premise draws, and of what counts as a move. No crate cites it: it is `pub`, and first, because the
-- checker takes public modules first, and a definition that is made weaker is then refused at an example that it makes false.
pub mod BothSides
-- ---- the table is a timetable
-- The slices of one run of positions, cut at the edge of a core.
mod Cuts
-- The slices of runs that stand one behind the other on a kind.
pub mod Packs
-- The jobs that stand on a kind: their ticks, and how many there are.
pub mod Pieces
-- The position at which each job begins, and why a mover's two add up to whole windows.
mod Places
-- The goal: the table of shares that fit a board is a timetable of them.
pub mod Timetabled
-- How many slices the table has at the most.
pub mod Counts
-- ---- how often each job moves, exactly: no promise needs these theorems, and the planner's about moves cite them
-- How many edges of cores the movers and the others pass at the most.
mod CutsMost
-- The rows of one job: what they are in the table, and that its moves are told by them.
mod JobRows
-- The moves of one, two or three slices on the circle of the window.
mod Circle
-- The rows of a table, job by job.
mod Totals
-- The goal: the moves of each job, and of all together.
pub mod JobMoves
-- ---- what no promise needs and a reader may
-- The promise allows one result.
mod Determined
-- Worked sets: their tables and their moves.
mod Examples
