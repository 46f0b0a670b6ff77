pub mod AttributeSurfaces
pub mod CutSurfaces
pub mod MadeOrders
pub mod Traced
