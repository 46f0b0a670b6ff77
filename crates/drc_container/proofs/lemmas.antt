pub mod choice
pub mod reading
pub mod writing
pub mod surface
