-- What the index of a tree finds where nothing is left to apply.
pub mod NewestLeaves
pub mod Entries
pub mod Whole
