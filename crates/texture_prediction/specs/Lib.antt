pub mod Projection
pub mod Texture
pub mod Orientations
pub mod Laws
