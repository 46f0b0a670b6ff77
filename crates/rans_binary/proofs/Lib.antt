pub mod Bits
pub mod Quotients
pub mod Pushes
pub mod Again
mod Examples
pub mod BitNumbers
