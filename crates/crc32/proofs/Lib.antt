-- The laws that the proofs of this crate, and of the crates above it, go by.
pub mod Linear
pub mod TableEntries
pub mod Parts
pub mod Passing
pub mod Words
pub mod FilledRows
