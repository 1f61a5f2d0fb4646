-- What a reader must believe of octets.
pub mod Octets
pub mod Pieces
pub mod Stores
pub mod Found
