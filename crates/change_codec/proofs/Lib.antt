pub mod Changes
pub mod Decoding
pub mod Numbers
pub mod Appends
