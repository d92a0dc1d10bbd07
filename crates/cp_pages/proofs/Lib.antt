pub mod Chains
pub mod Runs
pub mod Layouts
pub mod Steps
pub mod Held
