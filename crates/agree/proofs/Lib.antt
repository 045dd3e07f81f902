-- Laws of the rooms of this program.
pub mod Rooms
