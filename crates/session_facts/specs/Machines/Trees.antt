-- The way down of a tree checkpoint, and what its phases share: the root and the inner nodes that it read, its way over them, and pieces on reserved numbers.
pub mod Charts
pub mod Ways
pub mod Placings
pub mod Leaves
