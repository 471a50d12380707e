pub mod FromFn
pub mod Listing
pub mod Searched
