pub mod EveryKind
pub mod FaultKinds
pub mod Wrapping
pub mod Reaching
pub mod KindsApart
pub mod OneAnswer
