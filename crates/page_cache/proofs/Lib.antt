pub mod NameLemmas
pub mod EntryLemmas
pub mod ObjectLemmas
pub mod ReadingLemmas
pub mod CacheLemmas
pub mod RefusalLemmas
pub mod ViewLemmas
