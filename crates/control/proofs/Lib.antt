pub mod Walks
pub mod Ruling
pub mod Seeing
pub mod OneAnswer
