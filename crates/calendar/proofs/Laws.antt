-- The calendar's laws. The crates above cite these and the functions' promises, and open no definition.
pub mod Integers
pub mod Years
pub mod Days
pub mod Weeks
pub mod Months
pub mod Dates
pub mod Numbers
pub mod Checked
pub mod Existing
