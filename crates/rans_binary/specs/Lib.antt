pub mod Blocks
pub mod BitLaws
