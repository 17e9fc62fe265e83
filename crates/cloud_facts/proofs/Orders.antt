-- The order in which leaves took the committed changes: of each client, tree and key the first ones in the order of commit.
pub mod Filters
pub mod Behind
pub mod Lacked
pub mod Advances
pub mod Takings
pub mod Kept
pub mod OneQueue
pub mod Legality
