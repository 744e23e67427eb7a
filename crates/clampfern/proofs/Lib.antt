-- Open Demands first. What the check does not find of the proof that a function meets its contract is in the folder of its name.
--
-- The three demands of every answer, in their own words, from the promises and nothing else.
mod Demands
-- The tick handler on the lines of an answer, from the promises too.
mod Ticks
-- What the page of demands rests on. The size of every answer.
mod Size
-- The answer to a text, and what it says.
mod Answers
-- Every refusal of a text is listed with its cause.
mod Refusals
-- Every listed cause gives its refusal.
mod Causes
-- The lines of an answer say what was answered.
mod Says
-- The records of an accepted plan are bytes, and come back from their lines.
mod ReadBack
-- The bounds of an accepted plan, by which they are.
mod Bounds
-- The lines of a plan behind the line of its board, read back by the handler's rules.
mod HandedBack
-- The numbers of the handler's answers.
mod Codes
-- How many rows lines can hold.
mod HandedFew
-- The numbers where a table holds a timetable.
mod TableCodes
-- The ways of packing lines.
mod Packing
--
-- What the functions' proofs cite: the lines of what was read and planned.
mod Lines
-- What the C entry gives, where the answer fits.
mod Entry
--
-- Each promise allows one result alone. No promise needs it.
mod Determined
-- The whole example, and answers that say nothing, worked out. No promise needs them.
mod Examples
