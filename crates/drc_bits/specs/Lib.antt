pub mod Reading
pub mod Numbers
pub mod Varint
pub mod Spells
pub mod Bits
pub mod Digits
