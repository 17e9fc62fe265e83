pub mod Reading
pub mod Tries
