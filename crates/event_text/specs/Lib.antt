pub mod Keyword
pub mod RoleWord
pub mod Event
pub mod Reading
