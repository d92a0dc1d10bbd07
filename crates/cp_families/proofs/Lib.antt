pub mod RowLemmas
pub mod Chunks
pub mod Searching
pub mod Exact
pub mod Lying
pub mod Refusing
