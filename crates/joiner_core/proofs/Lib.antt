pub mod Words
pub mod Flying
pub mod Answering
