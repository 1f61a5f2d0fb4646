-- The laws of octets.
pub mod Cases
pub mod Octets
pub mod Pieces
pub mod Stores
pub mod Found
