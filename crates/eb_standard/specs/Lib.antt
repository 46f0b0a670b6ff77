pub mod SymbolBits
pub mod ReadBack
