pub mod EventLemmas
pub mod LookLemmas
