pub mod Blank
pub mod MeterLemmas
