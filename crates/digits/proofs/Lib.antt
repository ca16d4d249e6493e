-- The laws that the proofs of this crate, and of the crates above it, go by.
pub mod Digits
pub mod Counting
pub mod Backwards
pub mod Short
