pub mod Certified
pub mod Forged
pub mod GuiltWitness
pub mod Judged
pub mod Listed
pub mod MoreRefusals
pub mod MoreStatuses
