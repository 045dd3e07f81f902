pub mod Lawful
pub mod Digits
pub mod Combined
pub mod Each
pub mod Sizes
pub mod Words
pub mod Putting
