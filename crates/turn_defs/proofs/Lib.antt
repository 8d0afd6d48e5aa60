mod Numbers
pub mod ShardsBelow
mod WorkedLogs
