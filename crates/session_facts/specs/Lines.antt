-- What holds after lines, of the cloud and of all sessions, and what lines say.
pub mod Running
pub mod Errands
pub mod Counted
pub mod Facts
pub mod Answers
pub mod Acknowledged
pub mod LeftNone
pub mod Shown
