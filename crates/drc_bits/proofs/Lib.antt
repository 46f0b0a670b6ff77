pub mod Results
pub mod Advancing
pub mod Groups
pub mod Many
pub mod Spelled
pub mod BitLists
pub mod Buffers
pub mod Loading
pub mod Packing
mod BitExamples
pub mod Written
pub mod PackedBits
pub mod Chains
pub mod Parted
pub mod Digits
