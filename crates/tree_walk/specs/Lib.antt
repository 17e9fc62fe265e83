pub mod Moves
pub mod Walk
pub mod Causes
pub mod Within
pub mod Meaning
pub mod Served
pub mod Stepped
