pub mod Steps
pub mod Visible
pub mod NameLaws
pub mod CountedLaws
pub mod TroubleLaws
pub mod ReplyLaws
