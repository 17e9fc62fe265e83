pub mod Content
pub mod MemoryEnd
pub mod Writes
pub mod Input
pub mod Lines
pub mod Output
