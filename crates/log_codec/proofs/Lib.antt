pub mod AtomicLaws
pub mod PuLaws
pub mod ItemOrder
