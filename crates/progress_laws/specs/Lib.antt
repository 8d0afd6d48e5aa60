pub mod Idle
pub mod Moves
pub mod Rows
pub mod Terms
