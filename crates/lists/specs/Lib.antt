-- What a reader must believe of settings lists, in the order of the paper's "What a type is".
pub mod Words
pub mod Lists
pub mod Several
