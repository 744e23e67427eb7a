-- A guide to the proofs of the split, in reading order. The folders home, steps and balance are the modules of src/: what the check does not
-- find of their functions' proofs, and the laws that these need. split and split_legal are functions of lib.rt.
-- What every call of `split` promises, in plain words, over its contract alone. Start here.
mod Promises
-- The definitions of that promise by examples, exactly at each limit and wrong by one. `pub` modules are checked first: a slip in a definition
-- is refused at an example that it makes false, before a proof objects.
pub mod BothSides
-- The worked sets with their answers, and why demand 3 has its slack.
mod Examples
-- The demands of the definitions: shares that are given are a split, and a refusal for room leaves none on the smaller board.
pub mod Demands
-- Each refusal for room has its cause, and each cause its refusal.
pub mod Causes
-- What the code's answers say, and which of them the definition of the split gives.
mod Answers
-- What `split` needs: an answer that says what the definition does promises all.
mod Promising
-- The jobs at home in columns, and the answer by which kinds are over: what `split_legal` needs.
mod ByOver
-- The split and the balance of jobs are those of their costs in columns.
pub mod Seen
-- The promises leave one result each. No promise needs this.
mod Determined
-- The steps with no step taken, and that more room never hurts. No promise needs this.
mod ClosedForm
