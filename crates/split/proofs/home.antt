-- Where the jobs start, for the proofs of `home`. What is `pub` the proofs outside need too.
-- Jobs at home as rows: they are ready for the steps and fit the window, and what one kind sees here the other sees there.
pub mod Homes
-- One job more goes home: a turn of the loop of `go_home`.
mod GoingHome
