pub mod Standing
pub mod Committed
pub mod Kinds
pub mod Right
pub mod Chain
pub mod Index
