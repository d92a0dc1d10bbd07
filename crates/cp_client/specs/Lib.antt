pub mod Asking
pub mod Accepting
pub mod View
pub mod Laws
