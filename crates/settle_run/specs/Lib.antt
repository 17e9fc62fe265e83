pub mod Parts
pub mod Stepped
pub mod Settling
pub mod End
pub mod Leases
pub mod Meaning
