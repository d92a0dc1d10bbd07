pub mod Moments
pub mod SlotLemmas
pub mod RunLemmas
pub mod CallLemmas
