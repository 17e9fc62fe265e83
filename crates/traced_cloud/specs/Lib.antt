pub mod Json
pub mod Line
pub mod Note
pub mod Noted
pub mod Notes
pub mod Replies
pub mod Stamp
pub mod Woven
