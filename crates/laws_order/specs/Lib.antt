pub mod Degree
pub mod Laws
pub mod Rounds
