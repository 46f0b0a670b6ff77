pub mod Prefixes
pub mod Appending
pub mod Taking
pub mod Parted
pub mod Truths
