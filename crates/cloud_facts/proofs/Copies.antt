-- First copies: in what turn the records of a queue are sent, and which messages settling can count on.
pub mod Order
pub mod CopyLemmas
pub mod Heads
pub mod Queues
pub mod Stays
pub mod Runs
pub mod Receives
pub mod Turns
pub mod Growth
pub mod Tops
