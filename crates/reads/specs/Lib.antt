pub mod Counts
pub mod Descriptors
