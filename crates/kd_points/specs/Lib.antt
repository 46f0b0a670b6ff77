pub mod Axes
pub mod Keys
pub mod Extents
pub mod Header
pub mod Meaning
pub mod Written
pub mod Laws
pub mod Rows
