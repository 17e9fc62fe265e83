-- The way down of a tree checkpoint, and what its phases share: the root and the inner nodes that it read, its way over them, and pieces on reserved numbers.
pub mod Forks
pub mod Seen
pub mod Strides
pub mod Ways
pub mod Others
pub mod Placings
pub mod Reserves
pub mod Names
pub mod WayCharts
