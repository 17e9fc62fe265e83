pub mod Prefix
pub mod Look
pub mod End
pub mod Meaning
pub mod Tagged
pub mod Stepped
pub mod Within
