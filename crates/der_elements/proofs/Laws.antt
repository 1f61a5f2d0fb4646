-- The laws of DER.
pub mod Contents
pub mod Readings
pub mod Der
pub mod Loose
pub mod Durations
pub mod AnyDer
pub mod Checked
