-- What the index of a tree finds where nothing is left to apply.
pub mod Once
pub mod NewestLeaves
pub mod Folds
pub mod Entries
pub mod Stored
pub mod Still
