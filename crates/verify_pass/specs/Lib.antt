pub mod Terms
pub mod Groups
pub mod Chosen
pub mod Classes
pub mod Lines
pub mod States
pub mod TooSoon
pub mod Rows
