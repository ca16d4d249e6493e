-- The laws that the proofs of this crate go by.
pub mod Rounding
