-- What a reader must believe of the canonical text in a lent buffer.
pub mod Canonical
pub mod Durations
