pub mod Words
pub mod Numbered
pub mod Groups
pub mod Waiting
pub mod Claims
pub mod Answering
