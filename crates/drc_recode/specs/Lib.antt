pub mod Inverse
pub mod FirstOrder
pub mod PutBack
pub mod Recoded
pub mod Restored
