pub mod Terms
pub mod Rows
pub mod Flying
pub mod Held
pub mod Standing
pub mod Spelled
