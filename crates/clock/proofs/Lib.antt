pub mod Tests
pub mod Deciding
pub mod Dues
pub mod Answering
pub mod Comparing
