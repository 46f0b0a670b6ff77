pub mod Predicts
pub mod Choice
pub mod Refused
pub mod CanCode
pub mod Encodable
