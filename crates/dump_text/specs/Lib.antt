pub mod Dump
pub mod Text
pub mod Maps
pub mod BadLine
pub mod Reading
pub mod Room
pub mod Words
pub mod Steps
