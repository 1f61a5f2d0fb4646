-- What the functions that join lists promise each other.
pub mod Joined
