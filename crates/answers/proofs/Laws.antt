-- The laws of answers.
pub mod Counts
pub mod Outcomes
pub mod Quoted
