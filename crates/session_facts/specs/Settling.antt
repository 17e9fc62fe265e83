-- That a settling settles: what its parts leave where nobody else acts, and how many calls it makes at most.
pub mod Story
pub mod Runs
pub mod Bound
pub mod Locks
