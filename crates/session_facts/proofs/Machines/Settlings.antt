-- Settlings: what one knows of a cloud at each of its calls, that others leave it, and what each call leaves of a cloud and of its leases.
pub mod Recoveries
pub mod Anew
pub mod Nexts
pub mod Begins
pub mod Rights
pub mod PageSteps
pub mod Ways
pub mod Others
pub mod HeadPuts
pub mod Beside
pub mod Hands
pub mod Outcome
pub mod Explains
pub mod Late
pub mod Stops
pub mod SettledHeads
