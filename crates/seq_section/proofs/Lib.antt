pub mod Faces
pub mod Varints
pub mod Symbols
pub mod Written
