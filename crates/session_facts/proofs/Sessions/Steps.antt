-- One step of a session, by the machine that is at work.
pub mod Leases
pub mod Openings
pub mod Commits
pub mod TreeCheckpoints
pub mod PageCheckpoints
pub mod Gets
pub mod Walks
pub mod Scans
pub mod Looks
pub mod Settlings
pub mod Sweeps
