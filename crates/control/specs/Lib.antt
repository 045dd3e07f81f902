pub mod Rules
pub mod Search
pub mod Control
pub mod Ready
