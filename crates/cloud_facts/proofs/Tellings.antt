-- Telling: what a cloud tells under a book changes by each call that lands as the call's effect on the tally says.
pub mod Names
pub mod Pages
pub mod Easy
pub mod Nodes
pub mod Folds
pub mod Tables
pub mod Walks
pub mod Fences
pub mod Cuts
pub mod Ranges
pub mod Finding
pub mod Leaves
pub mod Sound
pub mod Laws
pub mod Asks
pub mod Ready
