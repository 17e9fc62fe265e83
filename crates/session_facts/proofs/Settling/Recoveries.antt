-- The recovery of a client in a settling: its calls, its leases, and what it leaves.
pub mod Calls
pub mod Ends
pub mod Runs
pub mod Leases
