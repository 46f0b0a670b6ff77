pub mod Kind
pub mod Counters
pub mod Refusals
pub mod Steps
pub mod Profile
pub mod Sources
pub mod Sinks
pub mod InMemory
