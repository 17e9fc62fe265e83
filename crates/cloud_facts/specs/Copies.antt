-- First copies: in what turn the records of a queue are sent, and which messages settling can count on.
pub mod Copies
