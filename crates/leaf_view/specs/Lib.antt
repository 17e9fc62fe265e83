pub mod Leaf
pub mod Fits
pub mod Lookup
pub mod Parts
pub mod Shown
pub mod Sound
pub mod Spelled
pub mod Ascent
