-- Fleets of programs on one store.
pub mod Fleet
pub mod Acts
pub mod Course
pub mod Right
pub mod Kept
pub mod Programs
