-- Laws of stores, and of the canonical text of a value or a duration in a lent buffer.
pub mod Stores
pub mod Sizes
pub mod Canonical
pub mod Durations
