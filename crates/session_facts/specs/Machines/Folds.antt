-- A leaf under its lease, in the checkpoint of a tree: what the checkpoint knows there, and where its gets and puts lead.
pub mod Knows
pub mod Nexts
