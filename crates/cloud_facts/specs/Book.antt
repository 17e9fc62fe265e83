-- The book and the tally: what a cloud tells of heads, queues and pages, as functions of names, and what each call that lands does to it.
pub mod Book
pub mod Tally
pub mod Telling
pub mod Records
pub mod Messages
pub mod Effects
pub mod Premises
pub mod Growth
