pub mod Accepted
pub mod Cache
pub mod Fetched
pub mod Held
pub mod Names
pub mod Refused
pub mod Spelled
