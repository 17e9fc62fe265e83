-- Why a session meets a trouble, by the machine that is at work.
pub mod TreeCheckpoints
pub mod Settlings
pub mod Sweeps
pub mod PageCheckpoints
pub mod Leases
pub mod Walks
pub mod Looks
pub mod Sessions
