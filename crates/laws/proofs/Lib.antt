pub mod Locality
pub mod Demand3
pub mod Indexed
pub mod Entries
pub mod Additions
pub mod Found
pub mod Reals
pub mod RealText
