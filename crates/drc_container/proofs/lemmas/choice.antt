pub mod FirstRefusals
pub mod SurfaceDue
pub mod Ranges
pub mod FewEntries
pub mod Encodable
