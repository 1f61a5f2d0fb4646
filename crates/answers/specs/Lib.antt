-- What a reader must believe of answers, in the order of the paper's "The seven numbers".
pub mod Counts
pub mod Refusals
pub mod Outcomes
