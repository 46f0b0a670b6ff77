pub mod Lists
pub mod Walks
pub mod Holes
pub mod Meshes
pub mod Proper
