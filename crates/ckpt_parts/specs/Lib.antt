pub mod Deleting
pub mod Intakes
pub mod Leaves
pub mod Leasing
pub mod Unless
