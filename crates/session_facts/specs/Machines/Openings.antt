-- Openings: what an opening or a recovery knows of a cloud, that it survives the calls of others, and what its own calls leave.
pub mod Client
pub mod Knows
pub mod HeadPuts
