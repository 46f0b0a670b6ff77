pub mod Square
pub mod Directions
pub mod Corrections
pub mod Restored
pub mod Pairs
pub mod Laws
