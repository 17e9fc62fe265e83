-- What is left: which committed records have their messages, in the pending update queues and in the ATOMIC queues.
pub mod Left
