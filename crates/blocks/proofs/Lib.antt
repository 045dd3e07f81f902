pub mod Refusing
pub mod Items
pub mod Widths
pub mod Passes
pub mod Judging
mod Reaching
pub mod OneAnswer
