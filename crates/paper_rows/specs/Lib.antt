pub mod TreeRows
pub mod YardRows
pub mod Rows
