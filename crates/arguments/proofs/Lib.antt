pub mod Asking
pub mod Digits
