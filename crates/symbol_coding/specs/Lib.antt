pub mod Symbols
pub mod Block
pub mod Opened
