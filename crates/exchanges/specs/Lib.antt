-- What a reader must believe of the entry points, and what is claimed of them.
pub mod Coding
pub mod Limits
pub mod Demands
