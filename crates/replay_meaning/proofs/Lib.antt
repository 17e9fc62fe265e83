pub mod ChainLemmas
pub mod SameLemmas
