pub mod Cut
pub mod Part
pub mod Plan
pub mod Sizes
