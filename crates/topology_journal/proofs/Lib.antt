pub mod Standing
pub mod Spelled
