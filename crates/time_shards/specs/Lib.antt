pub mod Shards
pub mod Spares
pub mod Text
