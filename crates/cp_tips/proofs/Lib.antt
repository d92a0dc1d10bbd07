pub mod Reading
pub mod Judging
pub mod Searching
pub mod Merging
pub mod Exact
pub mod Ordered
pub mod RowNumbers
