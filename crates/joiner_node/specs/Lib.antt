pub mod Terms
pub mod Read
pub mod Joining
pub mod Disks
pub mod Kept
