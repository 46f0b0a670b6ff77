pub mod Integers
pub mod Steps
pub mod Laws
