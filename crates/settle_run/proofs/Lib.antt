pub mod Words
pub mod Causes
pub mod End
pub mod Leases
pub mod Outcomes
pub mod Wholes
pub mod Meaning
pub mod Stepped
