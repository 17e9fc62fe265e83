-- What holds after lines, of the cloud and of all sessions, and what lines say.
pub mod Committed
pub mod Acts
pub mod Books
pub mod Landed
pub mod Outcome
pub mod More
pub mod Settler
pub mod Worker
pub mod Start
pub mod Answers
pub mod Acknowledged
pub mod LandedCommits
pub mod LeftNone
pub mod Shown
