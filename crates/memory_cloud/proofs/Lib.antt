pub mod OutcomeLemmas
pub mod PagesLemmas
pub mod QueueLemmas
pub mod SharingLemmas
