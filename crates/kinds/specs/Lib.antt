-- What a reader must believe of encoders and decoders, whatever they encode.
pub mod Kinds
pub mod Coding
pub mod Lawful
