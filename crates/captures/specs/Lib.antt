pub mod Capture
pub mod Write
pub mod Read
