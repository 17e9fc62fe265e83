-- The way up of a tree checkpoint: what the checkpoint knows there.
pub mod Knows
