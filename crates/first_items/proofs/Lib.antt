pub mod ChainLists
pub mod PairNumbers
