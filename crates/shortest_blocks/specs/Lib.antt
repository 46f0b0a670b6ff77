pub mod Costs
pub mod Cuts
pub mod AllCuts
pub mod Joined
pub mod Shortest
pub mod Laws
