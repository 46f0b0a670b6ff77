pub mod Header
pub mod Columns
pub mod choice
pub mod reading
pub mod writing
pub mod surface
pub mod Laws
