pub mod Packed
pub mod Indices
pub mod Short
