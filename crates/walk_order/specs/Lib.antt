pub mod Visits
pub mod DepthFirst
pub mod Orders
pub mod PredictionDegree
pub mod OfSurface
pub mod Laws
pub mod Stored
pub mod Ranking
