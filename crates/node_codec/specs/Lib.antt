pub mod Plain
pub mod Node
pub mod Tree
pub mod Inner
pub mod Lists
pub mod Greatest
