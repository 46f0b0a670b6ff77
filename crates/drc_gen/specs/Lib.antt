pub mod Draws
pub mod Lattice
pub mod Generated
pub mod Turns
pub mod GeneratedLaws
