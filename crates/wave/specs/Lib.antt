-- The wave and the numbers that hold it.
pub mod Layout
pub mod Wave
pub mod Going
