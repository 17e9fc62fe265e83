-- A commit run: what it knows of a cloud at each of its calls beside its cache, from its first walk to its last deletion.
pub mod Knows
pub mod Audited
pub mod HeadPuts
pub mod Stops
