pub mod Same
pub mod LookBack
pub mod Recalls
pub mod Laws
pub mod Registry
pub mod Rows
