pub mod Read
pub mod Found
pub mod Order
pub mod Marks
pub mod Held
pub mod StoreRows
