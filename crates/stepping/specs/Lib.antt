pub mod Machine
pub mod Step
pub mod Run
pub mod Answer
