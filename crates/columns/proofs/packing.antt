-- The laws that the proofs of src/packing.rt cite, in reading order.
-- A walk over two columns of one length.
mod Paired
-- A table that is being filled: every step of the way has the room that the whole has.
mod Filling
-- The table that is filled: its rows are those of the definition, and the others are as they were.
mod TableFilled
