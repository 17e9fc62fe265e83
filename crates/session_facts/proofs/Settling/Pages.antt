-- The checkpoint of a page in a settling: its calls, its leases, and what it leaves.
pub mod Leases
pub mod Rights
pub mod Calls
pub mod Stories
pub mod Drains
pub mod Emptied
pub mod Visits
pub mod Runs
