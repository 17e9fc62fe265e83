pub mod Numerals
pub mod Hexadecimal
pub mod Splitting
pub mod Shapes
