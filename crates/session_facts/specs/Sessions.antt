-- Sessions: what many of them know of one cloud, whatever calls fail, and that each call, crash and wait keeps it.
pub mod Audited
pub mod Knows
pub mod HeadPuts
pub mod Led
pub mod Spent
pub mod Stops
pub mod Explains
pub mod Calls
pub mod Untroubled
pub mod Alone
pub mod Landed
