-- Page checkpoints: what the checkpoint of a page knows of a cloud at each of its calls, in trees of any height, that others leave it, and what its calls rest on.
pub mod Fences
pub mod Chained
pub mod Reads
pub mod Others
pub mod Begins
pub mod Nexts
pub mod HeadPuts
pub mod Held
pub mod Hands
pub mod Outcome
pub mod Explains
pub mod Stays
