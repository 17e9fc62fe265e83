pub mod EventLaws
pub mod Spaced
