pub mod Growing
pub mod Valid
pub mod Counting
pub mod ReportLines
pub mod Room
