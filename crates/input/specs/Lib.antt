pub mod Streams
pub mod Tally
pub mod State
pub mod Whole
