pub mod Taken
pub mod Closer
pub mod Kept
pub mod View
pub mod Inside
pub mod Pendings
pub mod Laws
pub mod Writing
