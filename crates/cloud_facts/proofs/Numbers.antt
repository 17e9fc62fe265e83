-- The numbers of the committed records: in each queue they count a client's records in the order of commit.
pub mod Lists
pub mod Queues
pub mod Routes
pub mod Heads
pub mod Runs
pub mod Kept
pub mod Known
pub mod Ways
