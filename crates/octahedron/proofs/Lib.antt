pub mod Flipping
pub mod Spelling
pub mod Turning
pub mod Centring
pub mod Behind
pub mod Listed
pub mod Restoring
pub mod Correcting
