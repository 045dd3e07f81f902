pub mod Lookup
pub mod Parts
pub mod Rows
pub mod OneAnswer
