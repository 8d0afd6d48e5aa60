pub mod EventId
pub mod Numeral
