-- What the inner functions of values under types say.
pub mod Parts
