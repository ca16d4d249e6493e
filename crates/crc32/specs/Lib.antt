pub mod Table
pub mod Passing
pub mod Rows
