pub mod Stream
pub mod Totals
