pub mod AuditWords
pub mod ClientWords
pub mod Commands
pub mod MoreWords
pub mod Numbers
pub mod ReplayWords
pub mod View
