-- A leaf under its lease, in the checkpoint of a tree: what the checkpoint knows there, and what each put of the leaf and its pieces leaves.
pub mod Pieces
pub mod Leaves
pub mod Others
pub mod Puts
pub mod Reserves
pub mod Cuts
pub mod Reads
pub mod Plans
pub mod Nexts
pub mod Landed
pub mod Outcome
pub mod Stops
