pub mod Sights
pub mod Sets
pub mod Resting
pub mod Ascending
pub mod Dumping
pub mod Taking
pub mod OneDump
