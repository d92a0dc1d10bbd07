pub mod Families
pub mod Writers
pub mod Rows
pub mod View
pub mod Checking
pub mod Signed
pub mod Laws
pub mod Refusals
