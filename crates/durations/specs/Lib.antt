-- What a reader must believe of durations: 34 bis.3.6 of X.680, 11.9 d of X.690, 28 bis.6 of X.691.
pub mod Parts
pub mod Durations
pub mod Texts
pub mod Fields
pub mod Readings
pub mod Loose
pub mod Answers
