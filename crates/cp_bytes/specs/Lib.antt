pub mod Fields
pub mod Cursor
pub mod Reading
pub mod Hashes
