pub mod Fitting
pub mod Parts
pub mod Heads
pub mod Predicted
pub mod Squares
pub mod Textures
pub mod Values
pub mod Decoders
mod Examples
