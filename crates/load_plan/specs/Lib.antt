pub mod Events
pub mod FirstLook
