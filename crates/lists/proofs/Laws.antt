-- The laws of settings lists.
pub mod Words
pub mod Lists
pub mod Order
pub mod Spelled
pub mod Checked
