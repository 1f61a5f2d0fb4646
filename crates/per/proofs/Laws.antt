-- The laws of unaligned PER.
pub mod Carried
pub mod Per
pub mod AnyPer
pub mod Packed
