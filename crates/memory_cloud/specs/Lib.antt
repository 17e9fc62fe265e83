pub mod Choice
pub mod Ends
pub mod Maps
pub mod Memory
pub mod Mood
pub mod Outcome
pub mod Pages
