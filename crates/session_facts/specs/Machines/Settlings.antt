-- Settlings: what one knows of a cloud at each of its calls, that others leave it, and what each call leaves of a cloud and of its leases.
pub mod Knows
pub mod HeadPuts
