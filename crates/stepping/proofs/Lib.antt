pub mod Runs
pub mod Turns
pub mod FaultKinds
pub mod Naming
pub mod Stepping
pub mod Ending
pub mod OneAnswer
