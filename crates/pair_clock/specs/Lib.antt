pub mod Pair
pub mod Kind
pub mod Laws
