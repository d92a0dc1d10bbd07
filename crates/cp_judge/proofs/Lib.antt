pub mod Guilt
pub mod LifeGuilt
pub mod Signed
pub mod NoRows
pub mod InOrder
