pub mod Trace
pub mod Words
