pub mod Alone
pub mod Stacks
mod Advances
pub mod Walks
pub mod Induction
pub mod Openers
pub mod Theorems
pub mod Nested
pub mod Breaking
pub mod Instructions
pub mod OneAnswer
