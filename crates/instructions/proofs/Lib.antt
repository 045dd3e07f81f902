pub mod PastRegisters
pub mod OneAnswer
