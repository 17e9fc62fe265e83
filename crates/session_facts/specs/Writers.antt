-- What a writer may still send, and that a checkpoint alone empties its queue.
pub mod Sending
pub mod Alone
