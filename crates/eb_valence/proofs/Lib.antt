pub mod ReadBack
pub mod Noted
pub mod Examples
pub mod KeptNumbers
