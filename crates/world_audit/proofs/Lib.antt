pub mod Lists
pub mod Looks
pub mod Chains
pub mod Totals
pub mod Stops
pub mod Answered
