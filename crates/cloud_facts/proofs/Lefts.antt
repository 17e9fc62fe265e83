-- What is left: which committed records have their messages, in the pending update queues and in the ATOMIC queues.
pub mod MessageLemmas
pub mod Holding
pub mod Ways
pub mod QueueLemmas
pub mod HeadLemmas
pub mod SettlesLemmas
pub mod StaysLemmas
