pub mod Notebook
pub mod Metered
