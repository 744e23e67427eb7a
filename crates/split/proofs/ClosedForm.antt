-- The steps in closed form (specs/Closed.antt). No promise needs these theorems: they say what a reader may ask of the steps next.
-- Where a row goes, by the ticks at its turn, and that more room never takes it further away: `placed-more`, `placed-bounds`.
mod Placed
-- The steps end where the closed form says: `steps-closed`.
mod Closed
-- With more room, or with a job taken out, no other job is further from home: `closed-more`.
mod MoreRoom
