pub mod Calls
pub mod Verdicts
pub mod Opened
