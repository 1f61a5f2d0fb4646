-- What a reader must believe of DER.
pub mod Elements
pub mod Readings
pub mod Loose
pub mod Der
pub mod AnyDer
