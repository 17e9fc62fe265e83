pub mod Counting
pub mod Notes
pub mod Due
pub mod Ledger
pub mod Picking
