pub mod Look
pub mod Walk
pub mod Counts
pub mod Stop
pub mod Finding
