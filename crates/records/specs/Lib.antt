pub mod Read
pub mod Refusals
pub mod Steps
pub mod Told
