pub mod Accepted
pub mod Connected
pub mod Ordered
pub mod OnSurface
pub mod InOrder
pub mod Whole
pub mod bytes
pub mod reading
mod OfDecoding
mod Examples
