pub mod Whole
pub mod Predicted
pub mod Restoring
pub mod Valued
pub mod Correcting
pub mod Lawful
