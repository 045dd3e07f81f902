pub mod Adding
pub mod Leading
pub mod Digits
pub mod Parts
pub mod Whole
pub mod Answers
pub mod OneAnswer
