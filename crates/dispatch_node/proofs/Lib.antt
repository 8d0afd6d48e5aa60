pub mod Words
pub mod Places
pub mod Following
pub mod Reading
pub mod Disks
pub mod Carried
pub mod Deciding
