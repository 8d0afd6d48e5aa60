pub mod Deciding
pub mod Spares
pub mod Tables
pub mod Texts
