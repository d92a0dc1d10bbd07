pub mod EntryLemmas
pub mod FileLemmas
pub mod MemDiskLemmas
pub mod OverwriteLemmas
pub mod WriteLemmas
