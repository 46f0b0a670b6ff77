pub mod Pieces
pub mod Filling
