-- Open PlanColumns first. What the check does not find of the proof that a function meets its contract is in the folder of its name;
-- these are what such proofs cite, and what the proofs of crate planner cite of the same plans.
--
-- The promise of `plan_columns`, of each of its answers.
pub mod PlanColumns
-- The laws of plans: what an answer counts, and what is known of the shares that are given.
pub mod PlanLaws
-- The first numbers of a column are what was put there.
pub mod ColumnFronts
--
-- The promise allows one result alone. No promise needs this.
pub mod Determined
