pub mod Chosen
pub mod Covered
pub mod Leading
pub mod Run
