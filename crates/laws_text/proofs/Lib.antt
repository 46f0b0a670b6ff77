pub mod Lines
pub mod Keywords
pub mod Declaring
pub mod Declared
pub mod Noting
pub mod Detailing
pub mod Describing
pub mod Running
pub mod Naming
pub mod Shapes
pub mod Items
pub mod Texts
mod Examples
