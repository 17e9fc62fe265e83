-- What a writer may still send, and that a checkpoint alone empties its queue.
pub mod Sends
pub mod WorkSends
pub mod Coming
pub mod Emptying
