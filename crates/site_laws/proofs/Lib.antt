mod Addressing
mod Stepping
mod Lifting
mod Following
mod Leaving
mod Starting
mod Resting
pub mod Naming
pub mod Keeping
pub mod Nodes
pub mod Opening
pub mod SameDisks
mod AddedRows
pub mod LongerLogs
pub mod Running
pub mod Working
mod Words
