pub mod Body
pub mod Ahead
pub mod Read
pub mod Text
pub mod Printing
pub mod Fields
pub mod RoundTripLaw
