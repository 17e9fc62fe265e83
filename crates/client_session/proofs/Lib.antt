pub mod BrokenOff
pub mod Phases
pub mod Stepped
