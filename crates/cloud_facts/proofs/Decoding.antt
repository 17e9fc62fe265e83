-- Decoding: every version that landed and every message that was sent is one of its kind, and no put repeats the bytes before it.
pub mod Reading
pub mod Landing
pub mod Newest
pub mod Versions
pub mod Values
pub mod Counting
