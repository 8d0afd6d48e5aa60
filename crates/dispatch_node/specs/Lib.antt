pub mod Terms
pub mod Follows
pub mod Kept
pub mod Dispatchers
pub mod Journals
