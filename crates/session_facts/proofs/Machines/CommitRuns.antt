-- A commit run: what it knows of a cloud at each of its calls beside its cache, from its first walk to its last deletion, what others leave of that, and
-- why it ends.
pub mod Plans
pub mod Prunes
pub mod Leases
pub mod Nexts
pub mod Refusals
pub mod Begins
pub mod Others
pub mod Outcome
pub mod Hands
pub mod HeadPuts
pub mod Stops
pub mod Troubles
pub mod Explains
pub mod Stays
pub mod Opened
pub mod Numbers
pub mod Attempts
