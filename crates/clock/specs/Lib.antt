pub mod Causes
pub mod Answers
pub mod Faults
pub mod Verdicts
pub mod Meaning
pub mod Sound
pub mod Compare
