pub mod Listed
pub mod Rounds
pub mod Foretelling
pub mod Steps
pub mod Distances
pub mod Choosing
pub mod Putting
pub mod Writing
