-- The rows of the trace: what a session's calls add to them is of a kind that its standing by the lines allows.
pub mod Asks
pub mod New
pub mod Added
pub mod Opened
pub mod Late
