pub mod Fits
pub mod FitsTest
pub mod Opens
