mod Examples
pub mod Slots
pub mod Values
pub mod Precisions
pub mod Counts
pub mod Widths
pub mod Tables
pub mod Again
