pub mod Parameters
pub mod Ots
pub mod Signing
pub mod Laws
pub mod Lanes
