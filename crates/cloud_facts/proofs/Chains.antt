-- The chains of pages: from the left end of each level of a tree its links are walked to the right, through the newest versions and through old ones.
pub mod Pieces
pub mod Names
pub mod Monotone
pub mod Joining
pub mod Roots
pub mod EmptyChains
pub mod LeafLanding
pub mod Laws
pub mod Grown
pub mod GoneLemmas
pub mod CutLemmas
pub mod Newest
