-- Sweeps: what the sweep of a tree knows of a cloud at each of its calls, that others leave it, and what its calls rest on.
pub mod Places
pub mod Knows
pub mod Swept
pub mod Reached
pub mod Remains
pub mod Same
