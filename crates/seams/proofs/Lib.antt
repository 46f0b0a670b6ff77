pub mod Listing
pub mod Bits
pub mod Telling
pub mod Chains
pub mod Values
pub mod Blocks
pub mod Kept
pub mod Filling
mod Examples
