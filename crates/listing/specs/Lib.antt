pub mod Decimal
pub mod Rooms
pub mod Text
pub mod Writing
