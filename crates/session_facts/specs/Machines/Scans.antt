-- Scans: what a scan beside a session's cache knows of a cloud, in trees of any height, from its walk's first call to the last leaf.
pub mod Knows
