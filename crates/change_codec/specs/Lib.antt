pub mod Change
pub mod Decoded
pub mod Number
