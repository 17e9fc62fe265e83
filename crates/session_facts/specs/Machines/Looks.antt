-- Look-ups by attribute: what one beside a session's cache knows of a cloud, from its first call to its last record.
pub mod Knows
