pub mod RunCosts
pub mod BestCuts
pub mod LeastCuts
pub mod Counted
pub mod Joined
pub mod Again
pub mod Shortest
