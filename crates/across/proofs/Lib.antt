pub mod Reading
pub mod Folding
pub mod Voting
pub mod Summing
pub mod Ranking
pub mod OneAnswer
