-- What the functions of the program promise each other.
pub mod Unfinished
pub mod Output
