pub mod Tagged
pub mod Parts
pub mod FixedTexts
pub mod Entries
pub mod Apart
pub mod TextLengths
