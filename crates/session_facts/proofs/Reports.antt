-- What a report shows, and that it stays right.
pub mod Order
pub mod Upto
pub mod Left
pub mod Settled
pub mod Right
