-- Page checkpoints: what the checkpoint of a page knows of a cloud at each of its calls, in trees of any height, that others leave it, and what its calls rest on.
pub mod Rights
pub mod Knows
