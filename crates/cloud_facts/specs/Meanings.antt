-- What follows from the chains of a tree for what a report reads and a walk meets. Lemmas alone, with no code.
pub mod Meets
pub mod Contents
pub mod Got
