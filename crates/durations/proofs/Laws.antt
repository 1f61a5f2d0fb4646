-- The laws of durations.
pub mod Parts
pub mod Made
pub mod Numbers
pub mod Texts
pub mod Reads
pub mod Whole
pub mod Values
pub mod Canonical
pub mod Fields
pub mod Found
pub mod Loose
pub mod Octets
pub mod Widths
pub mod Sizes
pub mod Answers
pub mod Checked
