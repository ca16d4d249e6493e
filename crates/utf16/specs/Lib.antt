pub mod Carry
pub mod Shown
