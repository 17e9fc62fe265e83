pub mod Reading
pub mod Walking
pub mod Going
pub mod Held
