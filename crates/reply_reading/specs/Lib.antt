pub mod Kind
pub mod Naming
pub mod Counted
pub mod Reading
