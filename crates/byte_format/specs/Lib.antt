pub mod Format
pub mod Whole
pub mod Order
pub mod HighKey
pub mod Plain
pub mod Gives
pub mod Adds
