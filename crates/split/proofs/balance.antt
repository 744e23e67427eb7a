-- What the proofs of `balance` need.
-- A difference of two numbers is what a signed field keeps of it, and a room has 63 bits.
mod Signed
