-- The laws of encoders and decoders.
pub mod Coding
