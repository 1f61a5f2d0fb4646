-- What a reader must believe of types, in the order of the paper's "What a type is".
pub mod Numbers
pub mod Years
pub mod Types
pub mod AnyTypes
pub mod Rows
