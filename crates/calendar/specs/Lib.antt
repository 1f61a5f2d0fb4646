-- What a reader must believe of the calendar, in the order of the paper's "What exists".
pub mod Integers
pub mod Years
pub mod Months
pub mod Weeks
pub mod Dates
