pub mod Registers
pub mod Memory
pub mod Operands
pub mod Values
pub mod Faulting
pub mod Carrying
pub mod Lanewise
pub mod Classes
