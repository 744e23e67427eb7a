-- What the promises cite, in reading order: which tables can be run, which job runs, where in the window.
pub mod Check
pub mod Running
pub mod Position
