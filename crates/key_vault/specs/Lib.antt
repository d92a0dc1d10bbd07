pub mod Ranges
pub mod Slots
pub mod Calls
pub mod Vaults
pub mod Runs
