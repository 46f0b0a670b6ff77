pub mod Meaning
pub mod OnSurface
pub mod AsRead
pub mod Stream
pub mod Profiles
pub mod Unassembled
