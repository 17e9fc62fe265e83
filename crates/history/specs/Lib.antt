pub mod Fold
pub mod Legal
pub mod Audited
