pub mod Across
pub mod Joins
