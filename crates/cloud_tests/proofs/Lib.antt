pub mod KeepingLemmas
pub mod RemovalLemmas
