pub mod Models
pub mod Rule
