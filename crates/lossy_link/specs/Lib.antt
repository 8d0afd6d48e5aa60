pub mod Fates
pub mod Members
pub mod Words
pub mod Outcome
pub mod Entries
pub mod Plans
pub mod Rows
