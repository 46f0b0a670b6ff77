pub mod Seams
pub mod SeamBits
pub mod Values
pub mod Classes
pub mod Pairs
pub mod Laws
