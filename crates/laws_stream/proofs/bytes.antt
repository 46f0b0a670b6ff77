pub mod Lists
pub mod Blocks
pub mod Attributes
pub mod Connectivity
pub mod Streams
