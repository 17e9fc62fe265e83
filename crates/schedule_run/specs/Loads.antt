-- What a load leaves in a cloud that was empty.
pub mod Inserts
pub mod Loaded
