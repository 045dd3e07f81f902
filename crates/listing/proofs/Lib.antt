pub mod Places
pub mod Putting
pub mod Kinding
pub mod Lines
pub mod Texts
pub mod OneAnswer
