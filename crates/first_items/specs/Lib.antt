pub mod Chains
pub mod FirstItems
