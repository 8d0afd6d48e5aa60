pub mod Words
pub mod Noting
pub mod Spelled
pub mod Voters
pub mod Standing
