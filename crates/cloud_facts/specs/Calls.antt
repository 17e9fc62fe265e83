-- Clouds: what holds of what a cloud tells under a book holds after every call that lands, under the book that the call leaves.
pub mod Made
pub mod Standing
pub mod Call
pub mod Links
pub mod Pages
pub mod Others
pub mod Looks
pub mod Acting
