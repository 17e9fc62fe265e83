pub mod Atomic
pub mod Fault
pub mod Order
pub mod Pu
