pub mod Cases
pub mod HeadLemmas
pub mod Digits
pub mod Parts
pub mod Decimals
pub mod Phrases
