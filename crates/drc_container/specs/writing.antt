pub mod Written
pub mod WrittenOnSurface
pub mod Chosen
pub mod Encoded
pub mod Layout
