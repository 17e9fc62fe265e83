-- The rows of the trace: what a session's calls add to them is of a kind that its standing by the lines allows, and opens no transaction twice.
pub mod Asks
pub mod Opens
pub mod Sent
pub mod Committed
pub mod Lines
pub mod Once
pub mod CallAsks
pub mod CallKinds
pub mod Added
pub mod Opened
pub mod Late
