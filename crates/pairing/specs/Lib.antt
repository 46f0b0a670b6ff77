pub mod Pairing
pub mod Degenerate
pub mod Positions
pub mod Classes
pub mod Choosing
pub mod Turns
pub mod CarriedPairs
