-- The laws of points and durations together.
pub mod Texts
pub mod Encodings
pub mod Points
