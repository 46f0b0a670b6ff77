pub mod Reducing
pub mod Products
pub mod Squares
pub mod Rooted
pub mod Guesses
