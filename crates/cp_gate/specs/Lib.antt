pub mod Histories
pub mod Models
pub mod Words
pub mod Rule
