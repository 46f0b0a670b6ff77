pub mod Pairs
pub mod Foretold
pub mod Restored
pub mod Chosen
pub mod Corrected
