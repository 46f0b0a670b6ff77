mod Rows
pub mod Lists
pub mod Spread
pub mod Noting
pub mod Linking
pub mod Equals
pub mod Roots
pub mod NamedTables
pub mod Degrees
mod NameDegrees
mod SymbolDegrees
pub mod TableDegrees
pub mod CornersNamed
pub mod CornerLabels
