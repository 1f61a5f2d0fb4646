-- What a reader must believe of the replies to lines.
pub mod Lines
pub mod Rooms
