pub mod Turns
pub mod Replicas
pub mod Stops
mod Turning
