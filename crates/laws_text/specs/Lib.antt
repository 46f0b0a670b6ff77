pub mod NameShape
pub mod HeaderShape
pub mod TextShape
pub mod Laws
