-- Walks: what a session's cache and a walk beside it know of a cloud, in trees of any height, and what the objects that they use show to be applied.
pub mod Caches
pub mod Knows
