-- The order in which leaves took the committed changes: of each client, tree and key the first ones in the order of commit.
pub mod Order
