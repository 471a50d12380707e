pub mod Rows
pub mod Unread
pub mod Complete
