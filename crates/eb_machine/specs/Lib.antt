pub mod Machine
pub mod Events
pub mod Closes
pub mod Degree
pub mod Named
pub mod Shown
pub mod OneFaceMore
pub mod Beside
