pub mod Ballots
pub mod Majority
pub mod Rows
