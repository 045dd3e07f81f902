pub mod Item
pub mod Open
pub mod Code
pub mod Scan
pub mod Rules
pub mod Levels
