pub mod NoteLemmas
pub mod DueLemmas
pub mod Limits
pub mod Pending
