pub mod Numbers
pub mod Reading
pub mod Contexts
pub mod Noting
