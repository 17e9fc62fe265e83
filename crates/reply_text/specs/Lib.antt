pub mod Name
pub mod Reply
pub mod Grammar
pub mod Call
