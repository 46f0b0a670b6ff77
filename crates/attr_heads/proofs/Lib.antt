pub mod FirstFaults
pub mod Passing
pub mod Widths
pub mod Types
pub mod HeadsBack
pub mod ProfileHeads
