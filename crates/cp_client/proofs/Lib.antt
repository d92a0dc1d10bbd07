pub mod Exact
pub mod Served
pub mod Written
