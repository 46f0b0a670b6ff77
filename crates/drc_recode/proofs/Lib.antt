pub mod BackRows
pub mod FirstOrders
pub mod Restorings
