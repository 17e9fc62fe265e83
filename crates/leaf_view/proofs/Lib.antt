pub mod Exact
pub mod Spelled
pub mod Split
pub mod Reading
pub mod PartsLemmas
pub mod Climbing
