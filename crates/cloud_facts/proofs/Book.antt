-- The book and the tally: what a cloud tells of heads, queues and pages, as functions of names, and what each call that lands does to it.
pub mod Names
pub mod Places
pub mod Lengths
pub mod GrowthLemmas
pub mod Empty
