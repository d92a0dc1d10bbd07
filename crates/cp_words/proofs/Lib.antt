pub mod Names
pub mod PairLemmas
pub mod Parsing
