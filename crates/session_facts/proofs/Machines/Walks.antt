-- Walks: what a session's cache and a walk beside it know of a cloud, in trees of any height, what the objects that they use show to be applied, and
-- why a walk stops.
pub mod Caches
pub mod Steps
pub mod Turns
pub mod Outcome
pub mod Beside
pub mod Prunings
pub mod Explains
pub mod Stays
