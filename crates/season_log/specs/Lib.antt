pub mod Words
pub mod Openings
pub mod Rows
pub mod Forms
pub mod Calls
pub mod Answers
pub mod Mistakes
