pub mod Keys
pub mod Packing
pub mod Trees
pub mod Order
pub mod Walk
pub mod Reading
pub mod Turns
pub mod Laws
