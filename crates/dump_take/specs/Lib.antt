pub mod Quiet
pub mod Sight
pub mod Taken
pub mod Parts
