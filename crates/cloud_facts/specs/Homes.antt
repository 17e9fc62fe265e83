-- Homes: what holds of open clients and of openings, of two sessions at once.
pub mod Homes
