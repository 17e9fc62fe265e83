-- Scans: what a scan beside a session's cache knows of a cloud, in trees of any height, from its walk's first call to the last leaf, and why it stops.
pub mod Rights
pub mod Turns
pub mod Outcome
pub mod Explains
pub mod Stays
