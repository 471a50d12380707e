pub mod Decimals
pub mod Tickets
pub mod Valves
pub mod Alike
pub mod Errors
