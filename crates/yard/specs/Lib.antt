pub mod Passing
pub mod Ready
pub mod Entries
pub mod Taking
