pub mod Wrapped
pub mod Vectors
pub mod Roots
