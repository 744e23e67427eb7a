-- Open Demands first. What the check does not find of the proof that a function meets its contract is in the folder of its name;
-- these are what such proofs cite, and the theorems over the promises.
--
-- The three demands of every call of `plan`, in their own words, from its promise and nothing else.
pub mod Demands
-- What follows from that promise alone: the definition's cases, taken apart once for the page of demands.
mod FromPromise
-- Every refusal has the cause that specs/Listed.antt gives it, and every cause its refusal.
pub mod Causes
-- Wrong planners that meet no promise. No promise needs this: it shows how much the promise of `plan` says.
mod WrongPlanners
-- Each promise allows one result alone. No promise needs this either.
mod Determined
-- Sets that reach the bounds of a plan, and the moves of one, worked out.
pub mod Examples
--
-- A plan keeps demand 2.
pub mod PlanKept
-- The promise of `Tables::fill`, from that of `columns::plan_columns`.
mod PlanTables
-- The promise of `plan`, from that of `Tables::fill` and of the functions over rows of records.
pub mod Lent
-- The promise of `moves`; and how often each job of an accepted set moves, theorems that no promise needs.
pub mod PlanMoves
