pub mod Projecting
pub mod Sides
pub mod Turning
