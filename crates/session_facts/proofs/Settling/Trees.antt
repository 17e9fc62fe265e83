-- The checkpoint of a tree in a settling: its calls, its leases, and what it leaves.
pub mod Pieces
pub mod Calls
pub mod Lists
pub mod Roots
pub mod Visits
pub mod Room
pub mod Steps
pub mod Receives
pub mod Turns
pub mod Drains
pub mod Runs
pub mod Emptied
pub mod Leases
