pub mod CommitLaws
pub mod CounterLaws
pub mod Counters
pub mod Indexes
pub mod Places
pub mod Routes
pub mod Pruning
