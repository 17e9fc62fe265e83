-- The chains of pages: from the left end of each level of a tree its links are walked to the right, through the newest versions and through old ones.
pub mod Links
pub mod Chain
pub mod Landing
pub mod Cuts
pub mod Gones
