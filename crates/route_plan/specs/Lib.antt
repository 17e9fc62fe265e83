pub mod Heads
pub mod Index
pub mod Prune
pub mod Queue
pub mod Record
pub mod Route
pub mod Seen
