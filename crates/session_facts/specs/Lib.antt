pub mod Machines
pub mod Settling
pub mod Sessions
pub mod Rows
pub mod Lines
pub mod Index
pub mod Writers
