pub mod Registers
pub mod Quotients
pub mod HighHalf
pub mod Halves
pub mod Bounds
pub mod Ordering
pub mod OneAnswer
