-- Clouds: what holds of what a cloud tells under a book holds after every call that lands, under the book that the call leaves.
pub mod Rows
pub mod Making
pub mod StandingLemmas
pub mod Calls
pub mod Passing
pub mod Copies
pub mod Searching
pub mod Heads
pub mod Pages
pub mod Firsts
pub mod LinkLemmas
pub mod Guarding
pub mod OthersLemmas
pub mod Outcomes
