pub mod Held
pub mod Replays
pub mod Opens
