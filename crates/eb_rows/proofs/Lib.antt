mod NamedRows
pub mod RowTables
pub mod EqualNames
pub mod RowSteps
