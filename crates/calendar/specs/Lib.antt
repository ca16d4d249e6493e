pub mod Years
pub mod Times
