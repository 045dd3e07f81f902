pub mod Facts
pub mod Cutting
pub mod Tables
pub mod Numbers
pub mod Reading
pub mod Room
pub mod Theorems
pub mod Examples
