-- Look-ups by attribute: what one beside a session's cache knows of a cloud, from its first call to its last record, and why it stops.
pub mod Outcome
pub mod Explains
pub mod Stays
