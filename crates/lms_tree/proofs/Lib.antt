pub mod Codes
pub mod KeyBytes
pub mod Testing
pub mod Heights
pub mod NodeLemmas
pub mod Climbing
pub mod Written
