pub mod Waiting
pub mod Numbered
pub mod Queue
pub mod Ahead
pub mod Rows
