pub mod Head
pub mod Counters
pub mod Pending
pub mod Slot
pub mod Spelling
pub mod Fault
