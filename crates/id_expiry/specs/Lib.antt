pub mod Times
pub mod Timed
