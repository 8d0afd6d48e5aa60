pub mod Terms
pub mod Core
pub mod Rows
pub mod Node
pub mod Kept
