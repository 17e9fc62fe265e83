-- Checkpoints of trees of any height: what one knows at each of its calls, and what each call leaves of a cloud and of its leases.
pub mod Few
pub mod Knows
pub mod Counting
pub mod Nesting
pub mod Named
