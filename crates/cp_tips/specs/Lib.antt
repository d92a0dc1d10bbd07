pub mod Tip
pub mod Table
pub mod View
pub mod Rows
pub mod Tips
pub mod Laws
