pub mod Parts
pub mod Tested
pub mod Laid
pub mod Accepted
pub mod Files
pub mod Theorems
pub mod OneAnswer
