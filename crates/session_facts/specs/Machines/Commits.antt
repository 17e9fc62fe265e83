-- A commit: what it knows of a cloud at each of its calls, what others leave of that, and what its calls rest on and leave.
pub mod Knows
pub mod Audited
pub mod HeadPuts
