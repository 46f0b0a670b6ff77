pub mod CodedLengths
pub mod BlockLengths
pub mod Again
mod Examples
