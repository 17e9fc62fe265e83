-- Runs: what a checkpoint knows of the messages that it received, of the run that it took of them, and of the leaf that takes it.
pub mod Received
pub mod Taken
pub mod Marks
pub mod Leaves
pub mod Takes
