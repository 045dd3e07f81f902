pub mod Nesting
pub mod OpenAt
pub mod Stacks
