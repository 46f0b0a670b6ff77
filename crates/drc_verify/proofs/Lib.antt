pub mod HeadsDecided
pub mod FirstsFound
pub mod RowsDecided
pub mod Marking
pub mod Yes
pub mod SidesDecided
pub mod StreamFaces
pub mod Glued
mod GluedTold
