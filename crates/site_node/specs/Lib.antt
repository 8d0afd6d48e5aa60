pub mod Bytes
pub mod States
pub mod Paths
pub mod Faults
pub mod Replicas
pub mod Rows
pub mod Deciding
pub mod Shell
