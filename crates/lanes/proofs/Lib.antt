pub mod Bits
pub mod Members
pub mod Masks
pub mod Picking
pub mod LowestLanes
pub mod Filling
pub mod OneAnswer
