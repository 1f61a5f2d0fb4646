-- What a reader must believe of unaligned PER.
pub mod Packed
pub mod Per
pub mod AnyPer
