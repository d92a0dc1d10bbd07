pub mod Framing
pub mod Laws
pub mod HonestAudit
pub mod OwnAudit
