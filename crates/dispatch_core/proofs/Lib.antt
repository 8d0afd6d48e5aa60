pub mod Words
pub mod Rising
pub mod Found
pub mod Sets
pub mod Joins
pub mod Spelled
pub mod Rows
pub mod Keeping
