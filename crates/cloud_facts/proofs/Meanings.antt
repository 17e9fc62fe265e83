-- What follows from the chains of a tree for what a report reads and a walk meets. Lemmas alone, with no code.
pub mod Children
pub mod Stale
pub mod Pages
pub mod Walking
pub mod Contents
pub mod Ascending
pub mod Leaves
pub mod Finding
pub mod Reports
pub mod Steps
pub mod Got
pub mod Keys
