pub mod Pulling
pub mod Closing
pub mod Unread
pub mod Shifts
pub mod Draining
mod Examples
