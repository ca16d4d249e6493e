-- What the rules of binary XML give at a place of a stretch, and values as a reader holds them.
pub mod Running
pub mod Places
pub mod Pointers
pub mod HeldValues
pub mod Descriptors
