pub mod Accepted
pub mod Walks
pub mod Records
pub mod Theorems
pub mod Told
pub mod Breaking
pub mod OneAnswer
