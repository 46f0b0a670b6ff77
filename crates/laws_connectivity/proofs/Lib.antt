pub mod SmallSymbols
pub mod SmallLists
pub mod Again
mod Examples
