pub mod NormalSums
pub mod Directions
