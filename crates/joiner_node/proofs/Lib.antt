pub mod Words
pub mod Reading
pub mod Deciding
pub mod Reopening
pub mod Writing
