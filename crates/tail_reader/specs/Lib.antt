pub mod Next
pub mod Buffered
