pub mod PlainLemmas
pub mod NodeLemmas
pub mod TreeLemmas
pub mod InnerLemmas
pub mod EntryLemmas
pub mod SpellingLaws
pub mod ChildLemmas
pub mod KnownLemmas
