pub mod ListSpelling
pub mod Front
pub mod HeadLaws
pub mod Keeping
pub mod Settling
