pub mod Extent
pub mod Pages
pub mod History
pub mod Chain
pub mod Layout
