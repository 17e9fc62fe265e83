pub mod Buffers
pub mod Counting
pub mod Cutting
pub mod Rooting
pub mod Underway
