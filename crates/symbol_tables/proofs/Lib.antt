pub mod Symbols
pub mod Sharing
pub mod Probs
pub mod Spelling
mod Examples
pub mod Entries
