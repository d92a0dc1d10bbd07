pub mod Words
pub mod Script
pub mod Keys
pub mod Writers
pub mod Printed
pub mod Replay
pub mod View
pub mod Follows
