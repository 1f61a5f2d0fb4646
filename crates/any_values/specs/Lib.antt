-- What a reader must believe of points and durations together.
pub mod Texts
pub mod Holding
pub mod Encodings
