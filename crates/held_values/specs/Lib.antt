-- What a reader must believe of which values exist and which a type holds, and of every encoding of them.
pub mod Existence
pub mod Forms
pub mod Holding
pub mod Admission
pub mod Written
pub mod Encodings
