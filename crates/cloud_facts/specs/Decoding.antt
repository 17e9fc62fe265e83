-- Decoding: every version that landed and every message that was sent is one of its kind, and no put repeats the bytes before it.
pub mod Kinds
pub mod Decodes
