pub mod Fetches
pub mod OneAnswer
